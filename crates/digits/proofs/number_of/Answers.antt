use Rattle.std.proofs.Common.{◌≡◌, length, arith, sym, ap, eqb-true}
use Rattle.std.proofs.lemmas.Bool.{eqb-false}
use Rattle.digits.specs.Number.{number_said}
use Rattle.digits.proofs.Values.{empty, hex, decimal}
use Rattle.digits.proofs.number_of.Goals.{in_default-via-in-Some+else-not-is_empty, in_default-via-in_default}
use Rattle.digits.proofs.number_of.Goals as goal

pub returns-then-is_empty : goal.returns-then-is_empty
returns-then-is_empty c = ap number_said (empty _ (eqb-true _ _ (sym c.if-is_empty.ensures)))

pub returns-in-Some : goal.returns-in-Some
returns-in-Some c =
    let g : length c.in-Some.hex.now ≡ 0 → ⊥ = eqb-false _ _ (sym c.if-not-is_empty.ensures) in
    ap number_said (hex _ (omega (arith, g, c.in-Some.ensures.cases)) c.in-Some.ensures.cases.0 (rw (sym c.in-Some.ensures.cases.1) c.value_in.ensures))

pub returns-in_default : goal.returns-in_default
returns-in_default c =
    ap number_said
    (decimal _ (eqb-false _ _ (sym c.if-is_empty.ensures))
    (λ h. elim c.in_default.branch [
      | in_default-via-in-Some+else-not-is_empty w ↦
          let e : length w.in-Some.hex.now ≡ 0 = eqb-true _ _ (sym w.if-not-is_empty.ensures) in
          absurd (omega (arith, w.in-Some.ensures.cases))
      | in_default-via-in_default w ↦ w.in_default.ensures.cases
    ])
    c.value_in-in_default.ensures)
