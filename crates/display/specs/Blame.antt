-- The bytes of a datagram that a number of the reader is about (docs/SCOPE.md, "Reading a datagram").
use Rattle.std.specs.Prelude.{ℕ, ◌+◌, ◌-◌, min, List, length, leb, eqb}
use Rattle.base.specs.Choice.{pick}
use Rattle.big_endian.specs.Numbers.{be16}
use Rattle.display.specs.declared.Span.{Span}
use Rattle.display.specs.Span.{span}

-- n places from p on, as far as there are
unfoldable pub within : ℕ → ℕ → ℕ → Span
within all p n = span (min p all) (min n (all - p))

-- of an attribute at p. 10: its header; 11: its size; 12: the family; 13: class and number; 14: the value; else the sum
unfoldable pub in_attribute : List ℕ → ℕ → ℕ → Span
in_attribute d n p =
    pick (eqb n 10) (within (length d) p 4)
    (pick (eqb n 11) (within (length d) (p + 2) 2)
    (pick (eqb n 12) (within (length d) (p + 5) 1)
    (pick (eqb n 13) (within (length d) (p + 6) 2)
    (pick (eqb n 14) (within (length d) (p + 4) (be16 d (p + 2)))
    (within (length d) (p + 4) 4)))))

-- 1: all; 2: the byte with the type's top bits; 3: where the cookie stands; 4: the length
unfoldable pub blamed : List ℕ → ℕ → ℕ → Span
blamed d n p =
    pick (eqb n 1) (within (length d) 0 (length d))
    (pick (eqb n 2) (within (length d) 0 1)
    (pick (eqb n 3) (within (length d) 4 4)
    (pick (eqb n 4) (within (length d) 2 2)
    (pick (leb (length d) p) (within (length d) p 0)
    (in_attribute d n p)))))
