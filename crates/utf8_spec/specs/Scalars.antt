-- Unicode scalar values and their bytes: RFC 3629, section 3.
use Rattle.std.specs.Prelude.{ℕ, ◌+◌, ◌/◌, ◌%◌, ◌≤◌, List, [], ◌∷◌, ◌++◌, ◌≡◌, leb}
use Rattle.base.specs.Choice.{pick}

-- 0 to D7FF and E000 to 10FFFF: what UTF-16 can reach, without its surrogates
pub data Scalar (n : ℕ) : Type 0 where
  low : n ≤ 0xD7FF → Scalar n
  high : 0xE000 ≤ n → n ≤ 0x10FFFF → Scalar n

abbrev pub Scalars : List ℕ → Type 0
Scalars [] = Unit {0}
Scalars (n ∷ ns) = Scalar n × Scalars ns

-- the table: a number's bits, six to each byte behind the first
unfoldable pub encode : ℕ → List ℕ
encode n =
    pick (leb n 0x7F)
    (n ∷ [])  -- 0xxxxxxx
    (pick (leb n 0x7FF)
    ((0xC0 + n / 64) ∷ (0x80 + n % 64) ∷ [])  -- 110xxxxx 10xxxxxx
    (pick (leb n 0xFFFF)
    ((0xE0 + n / 4096) ∷ (0x80 + n / 64 % 64) ∷ (0x80 + n % 64) ∷ [])  -- 1110xxxx 10xxxxxx 10xxxxxx
    ((0xF0 + n / 262144) ∷ (0x80 + n / 4096 % 64) ∷ (0x80 + n / 64 % 64) ∷ (0x80 + n % 64) ∷ [])))  -- 11110xxx 10xxxxxx 10xxxxxx 10xxxxxx

-- numbers encoded one after the other
abbrev pub join : List ℕ → List ℕ
join [] = []
join (n ∷ ns) = encode n ++ join ns

-- bytes that are some numbers, encoded
pub record Joined (s : List ℕ) : Type 0 where
  pub numbers : List ℕ
  pub scalars : Scalars numbers
  pub bytes : join numbers ≡ s
