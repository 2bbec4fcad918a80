use Rattle.std.proofs.Common.{arith, sym, ◌∙◌}
use mathlib.Core.Logic.{⊎_elim}
use Rattle.registry.specs.SaidLaws.{entry_one, rule_one}
use Rattle.read_typed.proofs.Parts.{room, faulty, faulty_at, address, address_at, xor_address, xor_address_at, phrase, phrase_at, text, text_at, types, types_at, plain, plain_at}
use Rattle.read_typed.proofs.part_of.Goals as goal

pub returns-then-is_err : goal.returns-then-is_err
returns-then-is_err c =
    let e = entry_one c.entry_of-entry.ensures in
    let f = sym c.is_err.ensures.value ∙ c.if-is_err.true in
    (faulty _ _ e c.entry_fault.ensures f, faulty_at _ _ e c.entry_fault.ensures f _ _)

pub returns-in-Address : goal.returns-in-Address
returns-in-Address c =
    let e = entry_one c.entry_of-entry.ensures in
    let f = sym c.is_err.ensures.value ∙ c.if-is_err.false in
    let u = rule_one c.entry_rule.ensures in
    ⊎_elim
    (λ h. (address _ _ e c.entry_fault.ensures f u h, address_at _ _ e c.entry_fault.ensures f u _ _ h))
    (λ h. (xor_address _ _ e c.entry_fault.ensures f u h, xor_address_at _ _ e c.entry_fault.ensures f u _ _ h))
    c.in-Address.is

pub returns-in-Code : goal.returns-in-Code
returns-in-Code c =
    let e = entry_one c.entry_of-entry.ensures in
    let f = sym c.is_err.ensures.value ∙ c.if-is_err.false in
    let u = rule_one c.entry_rule.ensures in
    (phrase _ _ e c.entry_fault.ensures f u c.in-Code.is, phrase_at _ _ e c.entry_fault.ensures f u c.in-Code.is _ _)

pub returns-in-Text : goal.returns-in-Text
returns-in-Text c =
    let e = entry_one c.entry_of-entry.ensures in
    let f = sym c.is_err.ensures.value ∙ c.if-is_err.false in
    let u = rule_one c.entry_rule.ensures in
    ⊎_elim
    (λ h. (text _ _ e c.entry_fault.ensures f u h, text_at _ _ e c.entry_fault.ensures f u _ h))
    (⊎_elim
    (λ h. (types _ _ e c.entry_fault.ensures f u h, types_at _ _ e c.entry_fault.ensures f u _ h))
    (λ h. (plain _ _ e c.entry_fault.ensures f u h, plain_at _ _ e c.entry_fault.ensures f u _ h)))
    c.in-Text.is

pub slice_bounds-result-start-in-Code : goal.slice_bounds-result-start-in-Code
slice_bounds-result-start-in-Code c =
    let h = room _ _ (entry_one c.entry_of-entry.ensures) c.entry_fault.ensures (sym c.is_err.ensures.value ∙ c.if-is_err.false) (rule_one c.entry_rule.ensures) c.in-Code.is
    in
    omega (arith, h)

pub slice_bounds-result-count-in-Code : goal.slice_bounds-result-count-in-Code
slice_bounds-result-count-in-Code c =
    room _ _ (entry_one c.entry_of-entry.ensures) c.entry_fault.ensures (sym c.is_err.ensures.value ∙ c.if-is_err.false) (rule_one c.entry_rule.ensures) c.in-Code.is
