-- An error code in range is judged by its value alone, and one that is not refused is in range and has none of the faults 11 to 14.
use Rattle.std.specs.Prelude.{ℕ, ◌≤◌, List, Bool}
use Rattle.std.proofs.Math.Bool.{true, false}
use Rattle.std.proofs.Math.Path.{◌≡◌, refl}
use Rattle.std.proofs.Common.{sym, ◌∙◌, arith}
use borrow.Author.Tests.{le-ltb, ltb-false}
use Rattle.std.proofs.Math.Dec.{ltb}
use Rattle.base.specs.Choice.{pick}
use Rattle.registry.specs.ErrorCode.{code_value}
use Rattle.registry.specs.Fault.{fault}
use Rattle.registry.specs.declared.ErrorCode.{ErrorCode}
use Rattle.registry.specs.declared.Row.{Row}
use Rattle.write_typed.specs.Typed.{refusal}
use Rattle.write_typed.specs.TypedLaws.{no_fault}
use Rattle.write_error_code.specs.ErrorCode.{code_refusal}

module _ (rows : List Row) (e : ErrorCode) (s : List ℕ) where
  pub by_value : 300 ≤ e.code → e.code ≤ 699 → e.reserved ≤ 2097151 → code_refusal rows e s ≡ refusal rows 0x0009 (code_value e s)
  unfolding code_refusal
  by_value l h r = simp (le-ltb e.code 300 l, le-ltb 699 e.code h, le-ltb 2097151 e.reserved r)

  module _ (z : code_refusal rows e s ≡ 0) where
    pub in_range : (300 ≤ e.code) × (e.code ≤ 699) × (e.reserved ≤ 2097151)
    unfolding code_refusal
    in_range = go (ltb e.code 300) (ltb 699 e.code) (ltb 2097151 e.reserved) refl refl refl z
      where
        go : (a b c : Bool) → ltb e.code 300 ≡ a → ltb 699 e.code ≡ b → ltb 2097151 e.reserved ≡ c
            → ◌≡◌ {A = ℕ} (pick a 23 (pick b 23 (pick c 23 (refusal rows 0x0009 (code_value e s))))) 0
            → (300 ≤ e.code) × (e.code ≤ 699) × (e.reserved ≤ 2097151)
        go false false false p q r f = (ltb-false e.code 300 p, ltb-false 699 e.code q, ltb-false 2097151 e.reserved r)
        go false false true p q r f = absurd (omega arith)
        go false true c p q r f = absurd (omega arith)
        go true b c p q r f = absurd (omega arith)

    pub code_right : fault rows 0x0009 (code_value e s) ≡ 0
    code_right = no_fault rows 0x0009 (code_value e s) (sym (by_value in_range.0 in_range.1 in_range.2) ∙ z)
