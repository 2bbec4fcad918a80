-- Bytes put at a place of a lent buffer.
use Rattle.std.specs.Prelude.{ℕ, ◌+◌, List, Bool, length, leb}
use Rattle.base.specs.Choice.{pick}
use Rattle.base.specs.Laid.{laid}

-- is there room in l for s from p on?
unfoldable pub fits_at : List ℕ → ℕ → List ℕ → Bool
fits_at l p s = leb (p + length s) (length l)

-- a buffer with s from p on, where all of s fits; else the buffer as it was
unfoldable pub put : List ℕ → ℕ → List ℕ → List ℕ
put l p s = pick (fits_at l p s) (laid l p s) l
