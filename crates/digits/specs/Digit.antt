-- Hex digits of either case (RFC 4648 section 8).
use Rattle.std.specs.Prelude.{ℕ, suc, ◌-◌, List, [], ◌∷◌, ltb}
use Rattle.base.specs.Choice.{pick}

-- the value of a digit: 0 to 9 stand at 48, A to F at 65, a to f at 97; 16 for any other character
unfoldable pub digit_of : ℕ → ℕ
digit_of b =
    pick (ltb b 48) 16
    (pick (ltb b 58) (b - 48)
    (pick (ltb b 65) 16
    (pick (ltb b 71) (b - 55)
    (pick (ltb b 97) 16
    (pick (ltb b 103) (b - 87) 16)))))

-- the place of the first character that is no digit; the length where all are
unfoldable pub first_bad : List ℕ → ℕ
first_bad [] = 0
first_bad (b ∷ s) = pick (ltb (digit_of b) 16) (suc (first_bad s)) 0
