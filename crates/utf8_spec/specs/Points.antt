-- How many code points bytes have: those bytes that are no UTF8-tail. `joined_points` of BijectionLaws.antt says that they are the
-- characters of a list that is UTF-8.
use Rattle.std.specs.Prelude.{ℕ, ◌+◌, List, [], ◌∷◌, ◌&&◌, leb}
use Rattle.base.specs.Choice.{pick}

unfoldable pub starts : ℕ → ℕ
starts b = pick (leb 0x80 b && leb b 0xBF) 0 1

unfoldable pub points : List ℕ → ℕ
points [] = 0
points (b ∷ s) = starts b + points s
