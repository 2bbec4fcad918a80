-- The bytes that start a code point are counted by a filter.
use Rattle.std.proofs.Common.{◌≡◌, ℕ, ◌+◌, List, [], ◌∷◌, Bool, true, false, ◌&&◌, not, leb, length, filter, cond, refl, arith}
use Rattle.base.specs.Choice.{pick}
use Rattle.utf8_spec.specs.Points.{starts, points}

abbrev pub is_start : ℕ → Bool
is_start b = not (leb 0x80 b && leb b 0xBF)

one_more : (t : Bool) (b : ℕ) (l : List ℕ) (n : ℕ) → length l ≡ n → length (cond (not t) (b ∷ l) l) ≡ pick t 0 1 + n
one_more true b l n e = omega (arith, e)
one_more false b l n e = omega (arith, e)

pub counted : (s : List ℕ) → length (filter is_start s) ≡ points s
unfolding points starts
counted [] = refl
counted (b ∷ s) = one_more (leb 0x80 b && leb b 0xBF) b (filter is_start s) (points s) (counted s)
