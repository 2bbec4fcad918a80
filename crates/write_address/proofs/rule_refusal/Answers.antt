use mathlib.Core.Logic.{⊎_elim}
use Rattle.write_address.proofs.Values.{plain_rule, xor_rule, no_address}
use Rattle.write_address.proofs.rule_refusal.Goals as goal

pub returns-in-Address : goal.returns-in-Address
returns-in-Address c = ⊎_elim (plain_rule c.args.rule) (xor_rule c.args.rule) c.in-Address.is

pub returns-in_default : goal.returns-in_default
returns-in_default c = search (no_address)
