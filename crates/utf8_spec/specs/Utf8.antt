-- UTF-8: RFC 3629, section 4. Its grammar, production by production, what it says of bytes, and the same as a yes or no.
use Rattle.std.specs.Prelude.{ℕ, zero, suc, ◌-◌, ◌≤◌, List, [], ◌∷◌, ◌++◌, Bool, true, false, ◌&&◌, length, leb}
use Rattle.base.specs.Choice.{pick}

infix 70 ◌to◌
-- %xLO-HI; and %xLO, which is LO to LO
pub data Range : Type 0 where
  ◌to◌ : ℕ → ℕ → Range

-- ranges one after the other; a rule of the grammar is a list of these, its alternatives
abbrev pub Sequence : Type 0
Sequence = List Range

-- UTF8-tail = %x80-BF
abbrev pub UTF8-tail : Range
UTF8-tail = 0x80 to 0xBF

-- UTF8-1 = %x00-7F
abbrev pub UTF8-1 : List Sequence
UTF8-1 = (0x00 to 0x7F ∷ []) ∷ []

-- UTF8-2 = %xC2-DF UTF8-tail
abbrev pub UTF8-2 : List Sequence
UTF8-2 = (0xC2 to 0xDF ∷ UTF8-tail ∷ []) ∷ []

-- UTF8-3 = %xE0 %xA0-BF UTF8-tail / %xE1-EC 2( UTF8-tail ) / %xED %x80-9F UTF8-tail / %xEE-EF 2( UTF8-tail )
abbrev pub UTF8-3 : List Sequence
UTF8-3 =
    (0xE0 to 0xE0 ∷ 0xA0 to 0xBF ∷ UTF8-tail ∷ [])
    ∷ (0xE1 to 0xEC ∷ UTF8-tail ∷ UTF8-tail ∷ [])
    ∷ (0xED to 0xED ∷ 0x80 to 0x9F ∷ UTF8-tail ∷ [])
    ∷ (0xEE to 0xEF ∷ UTF8-tail ∷ UTF8-tail ∷ [])
    ∷ []

-- UTF8-4 = %xF0 %x90-BF 2( UTF8-tail ) / %xF1-F3 3( UTF8-tail ) / %xF4 %x80-8F 2( UTF8-tail )
abbrev pub UTF8-4 : List Sequence
UTF8-4 =
    (0xF0 to 0xF0 ∷ 0x90 to 0xBF ∷ UTF8-tail ∷ UTF8-tail ∷ [])
    ∷ (0xF1 to 0xF3 ∷ UTF8-tail ∷ UTF8-tail ∷ UTF8-tail ∷ [])
    ∷ (0xF4 to 0xF4 ∷ 0x80 to 0x8F ∷ UTF8-tail ∷ UTF8-tail ∷ [])
    ∷ []

-- UTF8-char = UTF8-1 / UTF8-2 / UTF8-3 / UTF8-4
abbrev pub UTF8-char : List Sequence
UTF8-char = UTF8-1 ++ UTF8-2 ++ UTF8-3 ++ UTF8-4

-- WHAT THE GRAMMAR SAYS OF BYTES. They are a sequence's: each is of its range
pub data Has : Sequence → List ℕ → Type 0 where
  none : Has [] []
  byte : {lo hi b : ℕ} {q : Sequence} {c : List ℕ} → lo ≤ b → b ≤ hi → Has q c → Has (lo to hi ∷ q) (b ∷ c)

-- a sequence is one of the alternatives
pub data OneOf : Sequence → List Sequence → Type 0 where
  this : {q : Sequence} {qs : List Sequence} → OneOf q (q ∷ qs)
  later : {q r : Sequence} {qs : List Sequence} → OneOf q qs → OneOf q (r ∷ qs)

-- they are those of one of the alternatives
pub data Among (qs : List Sequence) : List ℕ → Type 0 where
  is : {q : Sequence} {c : List ℕ} → OneOf q qs → Has q c → Among qs c

-- UTF8-octets = *( UTF8-char )
pub data Octets : List ℕ → Type 0 where
  end : Octets []
  char : {c s : List ℕ} → Among UTF8-char c → Octets s → Octets (c ++ s)

-- THE SAME AS A YES OR NO, which the contracts cite; `octets_yes` and `yes_octets` of Utf8Laws say that the two agree.
-- Bytes begin with those of a sequence
unfoldable pub begins : Sequence → List ℕ → Bool
begins [] s = true
begins (r ∷ q) [] = false
begins (lo to hi ∷ q) (b ∷ s) = leb lo b && leb b hi && begins q s

-- how many bytes the first of the alternatives has that they begin with; none: 0
unfoldable pub first : List Sequence → List ℕ → ℕ
first [] s = 0
first (q ∷ qs) s = pick (begins q s) (length q) (first qs s)

-- how many bytes the character has that they begin with; none: 0
unfoldable pub width : List ℕ → ℕ
width s = first UTF8-char s

-- behind the k bytes that are left of a character stand whole characters to the end
unfoldable pub goes : ℕ → List ℕ → Bool
goes zero [] = true
goes (suc k) [] = false
goes zero (b ∷ s) = leb 1 (width (b ∷ s)) && goes (width (b ∷ s) - 1) s
goes (suc k) (b ∷ s) = goes k s

unfoldable pub is_utf8 : List ℕ → Bool
is_utf8 s = goes 0 s
