-- Texts of which all is hex.
use Rattle.std.specs.Prelude.{ℕ, zero, suc, ◌≤◌, ◌<◌, Bool, true, false, List, [], ◌∷◌, ◌≡◌, refl, ltb, length, get_or}
use Rattle.std.proofs.Common.{arith, ltb-true}
use Rattle.base.specs.Choice.{pick}
use Rattle.digits.specs.Digit.{digit_of, first_bad}

at_most : (s : List ℕ) → first_bad s ≤ length s
unfolding first_bad
at_most [] = omega arith
at_most (b ∷ s) = go (ltb (digit_of b) 16) (at_most s)
  where
    go : (t : Bool) → first_bad s ≤ length s → pick t (suc (first_bad s)) 0 ≤ suc (length s)
    go true h = omega arith
    go false h = omega arith

-- where all are digits, each is
pub each : (s : List ℕ) (k : ℕ) → first_bad s ≡ length s → k < length s → digit_of (get_or s k 0) < 16
unfolding first_bad
each [] k e h = absurd (omega arith)
each (b ∷ s) k e h = go (ltb (digit_of b) 16) refl k h e (λ j q l. each s j q l)
  where
    go : (t : Bool) → ltb (digit_of b) 16 ≡ t → (k : ℕ) → k < suc (length s) → pick t (suc (first_bad s)) 0 ≡ suc (length s)
        → ((j : ℕ) → first_bad s ≡ length s → j < length s → digit_of (get_or s j 0) < 16) → digit_of (get_or (b ∷ s) k 0) < 16
    go true q zero l p f = ltb-true (digit_of b) 16 q
    go true q (suc j) l p f = f j (omega arith) (omega arith)
    go false q k l p f = absurd (omega arith)

-- where no character is found that is no digit, all are digits
pub all : (s : List ℕ) {p : ℕ} → p ≡ first_bad s → length s ≤ p → first_bad s ≡ length s
all s e h = omega (arith, at_most s)
