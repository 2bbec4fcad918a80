use Rattle.registry.specs.SaidLaws.{entry_one, rule_one}
use Rattle.write_typed.proofs.Values.{is_text, no_text}
use Rattle.write_typed.proofs.text_refusal.Goals as goal

pub returns-in-Text : goal.returns-in-Text
returns-in-Text c = search (is_text, entry_one, rule_one)

pub returns-in_default : goal.returns-in_default
returns-in_default c = search (no_text, c.in_default.not-Text, entry_one, rule_one)
