-- Several bytes at a step: what the functions behind the check answer that pass over a run of characters.
use Rattle.std.specs.Prelude.{ℕ, zero, suc, ◌≤◌, ◌<◌, List, [], ◌∷◌, ◌≡◌, length, drop}
use Rattle.utf8_spec.specs.Utf8.{◌to◌, Sequence, is_utf8}

-- as many UTF8-1, one after the other
unfoldable pub ones : ℕ → Sequence
ones zero = []
ones (suc n) = 0x00 to 0x7F ∷ ones n

-- the bytes from j on are UTF-8 exactly if those from i on are, as where whole characters stand between the two
pub record On (s : List ℕ) (i j : ℕ) : Type 0 where
  pub onward : i ≤ j
  pub within : j ≤ length s
  pub same : is_utf8 (drop j s) ≡ is_utf8 (drop i s)

-- and j is the later
pub record Past (s : List ℕ) (i j : ℕ) : Type 0 where
  pub some : i < j
  pub on : On s i j
