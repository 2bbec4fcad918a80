-- The bytes of the value, and what the call returns and leaves in the buffer.
use Rattle.std.specs.Prelude.{ℕ, ◌+◌, ◌*◌, ◌/◌, ◌%◌, ◌≤◌, ◌<◌, List, ◌∷◌, ◌++◌, ◌≡◌, length, take, Result}
use Rattle.std.proofs.Common.{sym, ap, ap₂, ◌∙◌, arith, lt-ltb, le-ltb}
use lib.Seq.{take_at}
use Rattle.wire.specs.declared.refusal.Refusal.{Refusal}
use Rattle.registry.specs.Rows.{rfc5389, look}
use Rattle.registry.specs.ErrorCode.{code_value}
use Rattle.registry.specs.Fault.{fault, entry_fault}
use Rattle.registry.specs.declared.ErrorCode.{ErrorCode}
use Rattle.write_raw.specs.Append.{answer, appended}
use Rattle.write_raw.specs.AppendLaws.{answer_wrong, appended_wrong}
use Rattle.write_typed.specs.Typed.{typed, refusal}
use Rattle.write_error_code.specs.ErrorCode.{code_refusal}
use Rattle.write_error_code.specs.ErrorCodeLaws as laws

-- four bytes and a phrase, in front of others
pub code_bytes : (e : ErrorCode) (s : List ℕ) {t : List ℕ} (x : List ℕ) → t ≡ s
    → take (4 + length s) (e.reserved / 8192 ∷ e.reserved / 32 % 256 ∷ (e.reserved % 32 * 8 + e.code / 100) ∷ e.code % 100 ∷ (t ++ x)) ≡ code_value e s
unfolding code_value
code_bytes e s {t} x p = rw p (take_at (code_value e s) x (4 + length s) (omega arith))

-- an ERROR-CODE of more than 131 bytes
above_131 : (v : List ℕ) → 131 < length v → fault rfc5389 0x0009 v ≡ 11
unfolding fault look entry_fault
above_131 v h = simp (le-ltb (length v) 4 (omega arith), lt-ltb 131 (length v) h)

-- by the four tests
module _ (e : ErrorCode) (s : List ℕ) where
  pub too_low : e.code < 300 → code_refusal rfc5389 e s ≡ 23
  unfolding code_refusal
  too_low l = simp (lt-ltb e.code 300 l)

  module _ (l : 300 ≤ e.code) where
    pub too_high : 699 < e.code → code_refusal rfc5389 e s ≡ 23
    unfolding code_refusal
    too_high h = simp (le-ltb e.code 300 l, lt-ltb 699 e.code h)

    module _ (h : e.code ≤ 699) where
      pub too_large : 2097151 < e.reserved → code_refusal rfc5389 e s ≡ 23
      unfolding code_refusal
      too_large r = simp (le-ltb e.code 300 l, le-ltb 699 e.code h, lt-ltb 2097151 e.reserved r)

      module _ (r : e.reserved ≤ 2097151) where
        by_value : code_refusal rfc5389 e s ≡ refusal rfc5389 0x0009 (code_value e s)
        by_value = laws.by_value rfc5389 e s l h r

        pub too_long : 127 < length s → code_refusal rfc5389 e s ≡ 23
        unfolding refusal code_value
        too_long n = by_value ∙ rw (above_131 (code_value e s) (omega arith))

        -- what is in range, with a phrase that fits, is judged by its bytes
        module _ (d m : List ℕ) (i : take (4 + length s) m ≡ code_value e s) {w : ℕ} (we : w ≡ refusal rfc5389 0x0009 (take (4 + length s) m)) where
          wrong : w ≡ code_refusal rfc5389 e s
          wrong = we ∙ ap (refusal rfc5389 0x0009) i ∙ sym by_value

          pub code_answer : {r : Result ℕ Refusal} → r ≡ answer d w (typed 0x0009 (take (4 + length s) m))
              → r ≡ answer d (code_refusal rfc5389 e s) (typed 0x0009 (code_value e s))
          code_answer p = p ∙ ap₂ (λ (f : ℕ) (v : List ℕ). answer d f (typed 0x0009 v)) wrong i

          pub code_buffer : {b : List ℕ} → b ≡ appended d w (typed 0x0009 (take (4 + length s) m))
              → b ≡ appended d (code_refusal rfc5389 e s) (typed 0x0009 (code_value e s))
          code_buffer p = p ∙ ap₂ (λ (f : ℕ) (v : List ℕ). appended d f (typed 0x0009 v)) wrong i

  -- any other is refused, whatever stands for its value
  module _ (d : List ℕ) (z : code_refusal rfc5389 e s ≡ 23) (v : List ℕ) where
    pub stops : {r : Result ℕ Refusal} → r ≡ answer d 23 (typed 0x0009 v) → r ≡ answer d (code_refusal rfc5389 e s) (typed 0x0009 (code_value e s))
    stops p = rw z (p ∙ answer_wrong d 23 (λ z. omega arith) (typed 0x0009 v) (typed 0x0009 (code_value e s)))

    pub keeps : {b : List ℕ} → b ≡ appended d 23 (typed 0x0009 v) → b ≡ appended d (code_refusal rfc5389 e s) (typed 0x0009 (code_value e s))
    keeps p =
        rw z
        (p ∙ appended_wrong d 23 (λ z. omega arith) (typed 0x0009 v) ∙ sym (appended_wrong d 23 (λ z. omega arith) (typed 0x0009 (code_value e s))))
