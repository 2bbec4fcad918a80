-- Characters at a place of a list: what the functions behind the check answer.
use Rattle.std.specs.Prelude.{ℕ, List, [], ◌∷◌, drop}
use Rattle.utf8_spec.specs.Utf8.{◌to◌, Sequence, width}

-- how many bytes the character at a place has; none: 0
unfoldable pub width_at : List ℕ → ℕ → ℕ
width_at s at = width (drop at s)

-- a row of the grammar, as the code has it: the first and the last of the bytes at each place
abbrev pub ranges : List (ℕ × ℕ) → Sequence
ranges [] = []
ranges (r ∷ q) = r.0 to r.1 ∷ ranges q
