-- What an answer says tells it apart from every other.
use Rattle.std.specs.Prelude.{ℕ, zero, suc, ◌≡◌, refl, get_or, Result, Ok, Err}
use Rattle.base.specs.Said.{Said}
use Rattle.base.specs.SaidLaws.{one_to_one}
use Rattle.hex_text.specs.Hex.{hex_said}
use Rattle.hex_text.specs.declared.HexFault.{HexFault}
use Rattle.hex_text.specs.declared.HexFault.TheVariants.{Bad, Odd}

hex_from : Said → Result ℕ HexFault
hex_from s = by s.kind
  where
    by : ℕ → Result ℕ HexFault
    by zero = Ok (get_or s.values 0 0)
    by (suc zero) = Err (Bad (get_or s.values 0 0))
    by (suc (suc k)) = Err Odd

pub hex_one : {a b : Result ℕ HexFault} → hex_said a ≡ hex_said b → a ≡ b
unfolding hex_said hex_from
hex_one = one_to_one hex_said hex_from back
  where
    back : (a : Result ℕ HexFault) → hex_from (hex_said a) ≡ a
    back (Ok n) = refl
    back (Err (Bad p)) = refl
    back (Err Odd) = refl
