use Rattle.std.proofs.Common.{ap}
use mathlib.Core.Logic.{⊎_elim}
use Rattle.std.proofs.lemmas.Result.{err_from_is_err_and}
use Rattle.registry.specs.SaidLaws.{entry_one, rule_one}
use Rattle.read_typed.specs.Typed.{typed_said}
use Rattle.read_typed.proofs.Fields.{faulty, read, address, xor_address, code, text, types, plain}
use Rattle.read_typed.proofs.value_of.Goals as goal

pub returns-in_err-entry_fault : goal.returns-in_err-entry_fault
returns-in_err-entry_fault c =
    let p = err_from_is_err_and c.from_residual.result c.from_residual.ensures.1 in
    rw (p.1, p.2) (ap typed_said (search (faulty, entry_one, c.in_err-entry_fault.was)))

pub returns-in-Address : goal.returns-in-Address
returns-in-Address c = ap typed_said (search (read, address, entry_one, rule_one, c.in_ok-entry_fault.was))

pub returns-in-XorAddress : goal.returns-in-XorAddress
returns-in-XorAddress c = ap typed_said (search (read, xor_address, entry_one, rule_one, c.in_ok-entry_fault.was))

pub returns-in-Code : goal.returns-in-Code
returns-in-Code c = ap typed_said (search (read, code, entry_one, rule_one, c.in_ok-entry_fault.was))

pub returns-in-Text : goal.returns-in-Text
returns-in-Text c =
    ap typed_said
    (read _ _ (entry_one c.entry_of-entry.ensures) c.entry_fault.ensures c.args.id c.in_ok-entry_fault.was (rule_one c.entry_rule.ensures)
    (⊎_elim (text _ _) (⊎_elim (types _ _) (plain _ _)) c.in-Text.is))
