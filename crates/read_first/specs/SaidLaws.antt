-- What an answer says tells it apart from every other.
use Rattle.std.specs.Prelude.{ℕ, zero, suc, ◌≡◌, refl, get_or, Option, Some, None}
use Rattle.base.specs.Said.{Said}
use Rattle.base.specs.SaidLaws.{one_to_one}
use Rattle.read_first.specs.First.{first_said}
use Rattle.read_first.specs.declared.Found.{Found}

first_of : Said → Option Found
first_of s = by s.kind
  where
    by : ℕ → Option Found
    by zero = Some (record { at = get_or s.values 0 0; size = get_or s.values 1 0 })
    by (suc k) = None

pub first_one : {a b : Option Found} → first_said a ≡ first_said b → a ≡ b
unfolding first_said first_of
first_one = one_to_one first_said first_of back
  where
    back : (a : Option Found) → first_of (first_said a) ≡ a
    back (Some f) = refl
    back None = refl
