-- Hex text: two digits a byte, the higher first (RFC 4648 section 8; either case is read, lower case is written).
use Rattle.std.specs.Prelude.{ℕ, ◌+◌, ◌*◌, ◌/◌, ◌%◌, List, [], ◌∷◌, Result, Ok, Err, ltb, eqb, length, take}
use Rattle.base.specs.Choice.{pick}
use Rattle.base.specs.Said.{Said, says}
use Rattle.base.specs.Laid.{laid}
use Rattle.digits.specs.Digit.{digit_of, first_bad}
use Rattle.hex_text.specs.declared.HexFault.{HexFault}
use Rattle.hex_text.specs.declared.HexFault.TheVariants.{Bad, Odd}

-- what an answer says: how many bytes; the place of the first character that is no digit; or that a digit is left over
unfoldable pub hex_said : Result ℕ HexFault → Said
hex_said (Ok n) = says 0 0 (n ∷ [])
hex_said (Err (Bad p)) = says 1 0 (p ∷ [])
hex_said (Err Odd) = says 2 0 []

-- the digit of a value below 16, in lower case
unfoldable pub glyph_of : ℕ → ℕ
glyph_of d = pick (ltb d 10) (48 + d) (87 + d)

-- the bytes that pairs of digits spell
unfoldable pub spelt : List ℕ → List ℕ
spelt [] = []
spelt (a ∷ []) = []
spelt (a ∷ b ∷ s) = (digit_of a * 16 + digit_of b) ∷ spelt s

-- the digits of bytes
unfoldable pub digits : List ℕ → List ℕ
digits [] = []
digits (b ∷ s) = glyph_of (b / 16) ∷ glyph_of (b % 16) ∷ digits s

-- what a text comes to: a character that is no digit is told first
unfoldable pub hex_of : List ℕ → Result ℕ HexFault
hex_of s = pick (ltb (first_bad s) (length s)) (Err (Bad (first_bad s))) (pick (eqb (length s % 2) 0) (Ok (length s / 2)) (Err Odd))

-- a buffer with the bytes of a text at its front, as far as it reaches; it stays as it was where the text is no hex
unfoldable pub unhexed : List ℕ → List ℕ → List ℕ
unhexed l s = laid l 0 (take (length l) (spelt s))

unfoldable pub read : Result ℕ HexFault → List ℕ → List ℕ → List ℕ
read (Ok n) l s = unhexed l s
read (Err e) l s = l

-- how many bytes a buffer can show, and the buffer with their digits at its front
unfoldable pub shown : List ℕ → List ℕ → ℕ
shown l d = length (take (length l / 2) d)

unfoldable pub showing : List ℕ → List ℕ → List ℕ
showing l d = laid l 0 (digits (take (length l / 2) d))
