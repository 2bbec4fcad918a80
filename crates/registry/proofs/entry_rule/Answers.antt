use Rattle.registry.specs.Rows.{rule_in}
use Rattle.registry.proofs.entry_rule.Goals as goal

pub returns-in-None : goal.returns-in-None
unfolding rule_in
returns-in-None c = rw c.in-None.is

pub returns-in-Some : goal.returns-in-Some
unfolding rule_in
returns-in-Some c = rw c.in-Some.is
