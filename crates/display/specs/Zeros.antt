-- The zeros that an IPv6 address is written without (RFC 5952 section 4.2): the longest run of two groups or more, the first of several.
use Rattle.std.specs.Prelude.{ℕ, suc, List, [], ◌∷◌, ltb, eqb}
use Rattle.base.specs.Choice.{pick}
use Rattle.display.specs.declared.Span.{Span}
use Rattle.display.specs.Span.{span}

-- how many zeros stand in front
unfoldable pub leading : List ℕ → ℕ
leading [] = 0
leading (x ∷ s) = pick (eqb x 0) (suc (leading s)) 0

-- a run takes the place of a shorter one
unfoldable pub better_of : Span → ℕ → ℕ → Span
better_of b p n = pick (ltb b.size n) (span p n) b

-- the best of b and the runs of s, which stands at p
unfoldable pub longest_from : ℕ → Span → List ℕ → Span
longest_from p b [] = b
longest_from p b (x ∷ s) = longest_from (suc p) (better_of b p (leading (x ∷ s))) s

-- one zero is written
unfoldable pub two_or_more : Span → Span
two_or_more b = pick (ltb b.size 2) (span 0 0) b

unfoldable pub longest : List ℕ → Span
longest s = two_or_more (longest_from 0 (span 0 0) s)
