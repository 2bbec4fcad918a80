-- The bytes of a text in UTF-8 that are shown by their numbers: those of control characters (U+0000 to U+001F, U+007F to U+009F).
use Rattle.std.specs.Prelude.{ℕ, Bool, true, false, ltb, eqb}
use Rattle.base.specs.Choice.{pick}

-- U+0080 to U+009F are C2 80 to C2 9F
unfoldable pub high : ℕ → Bool
high b = pick (ltb b 0x80) false (ltb b 0xA0)

-- a byte between its neighbours
unfoldable pub escaped : ℕ → ℕ → ℕ → Bool
escaped before b after =
    pick (ltb b 32) true
    (pick (eqb b 127) true
    (pick (eqb b 0xC2) (high after)
    (pick (eqb before 0xC2) (high b) false)))
