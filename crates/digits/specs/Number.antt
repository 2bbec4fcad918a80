-- Numbers as text: decimal, or hex behind 0x; up to 32 bits.
use Rattle.std.specs.Prelude.{ℕ, ◌+◌, ◌*◌, List, [], ◌∷◌, Option, Some, None, ltb, eqb, length, get_or, drop}
use Rattle.base.specs.Choice.{pick}
use Rattle.base.specs.Said.{Said, says}
use Rattle.digits.specs.Digit.{digit_of}

-- what an answer says: a number, or that there is none
unfoldable pub number_said : Option ℕ → Said
number_said (Some n) = says 0 0 (n ∷ [])
number_said None = says 1 0 []

-- the number that n goes on to with the digits of a text
unfoldable pub value_from : ℕ → ℕ → List ℕ → Option ℕ
value_from base n [] = Some n
value_from base n (b ∷ s) =
    pick (ltb (digit_of b) base)
    (pick (ltb 0xFFFFFFFF (n * base + digit_of b)) None (value_from base (n * base + digit_of b) s))
    None

-- 48 is 0 and 120 is x
unfoldable pub number_of : List ℕ → Option ℕ
number_of s =
    pick (eqb (length s) 0) None
    (pick (ltb (length s) 3) (value_from 10 0 s)
    (pick (eqb (get_or s 0 0) 48) (pick (eqb (get_or s 1 0) 120) (value_from 16 0 (drop 2 s)) (value_from 10 0 s))
    (value_from 10 0 s)))
