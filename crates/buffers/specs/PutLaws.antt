-- Bytes put where they fit: they are laid, and what is put behind what was laid makes one list with it.
use Rattle.std.specs.Prelude.{ℕ, ◌+◌, ◌≤◌, List, ◌++◌, ◌≡◌, length}
use Rattle.std.proofs.Common.{◌∙◌, le-leb}
use Rattle.base.specs.LaidLaws.{length-laid, laid-append}
use Rattle.base.specs.Laid.{laid}
use Rattle.buffers.specs.Put.{fits_at, put}

pub put_laid : (l : List ℕ) (p : ℕ) (s : List ℕ) → p + length s ≤ length l → put l p s ≡ laid l p s
unfolding put fits_at
put_laid l p s h = simp (le-leb (p + length s) (length l) h)

pub put_behind : (l : List ℕ) (i : ℕ) (u : List ℕ) (j : ℕ) (v : List ℕ) → j ≡ i + length u → j + length v ≤ length l
    → put (laid l i u) j v ≡ laid l i (u ++ v)
put_behind l i u j v e h = put_laid (laid l i u) j v (rw (length-laid l i u) h) ∙ laid-append l i u v j e
