-- Big-endian numbers at a place of a list, and as bytes (docs/SCOPE.md, "The datagram").
use Rattle.std.specs.Prelude.{ℕ, ◌+◌, ◌*◌, ◌/◌, ◌%◌, List, [], ◌∷◌, get_or, set}

-- the two bytes at p as one number, the first the higher; a byte that isn't there counts as nought
unfoldable pub be16 : List ℕ → ℕ → ℕ
be16 d p = get_or d p 0 * 256 + get_or d (p + 1) 0

-- the same of four bytes
unfoldable pub be32 : List ℕ → ℕ → ℕ
be32 d p = be16 d p * 65536 + be16 d (p + 2)

-- a number as two bytes, and as four
abbrev pub two : ℕ → List ℕ
two n = n / 256 ∷ n % 256 ∷ []

abbrev pub four : ℕ → List ℕ
four n = n / 16777216 ∷ n / 65536 % 256 ∷ n / 256 % 256 ∷ n % 256 ∷ []

-- the bytes m with the 16-bit number n in the length field, places 2 and 3, as far as m has them
unfoldable pub with_length : List ℕ → ℕ → List ℕ
with_length m n = set (set m 2 (n / 256)) 3 (n % 256)
