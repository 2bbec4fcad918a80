-- What an answer says tells it apart from every other.
use Rattle.std.specs.Prelude.{ℕ, zero, suc, ◌≡◌, refl, get_or, Option, Some, None}
use Rattle.base.specs.Said.{Said}
use Rattle.base.specs.SaidLaws.{one_to_one}
use Rattle.digits.specs.Number.{number_said}

number_from : Said → Option ℕ
number_from s = by s.kind
  where
    by : ℕ → Option ℕ
    by zero = Some (get_or s.values 0 0)
    by (suc k) = None

pub number_one : {a b : Option ℕ} → number_said a ≡ number_said b → a ≡ b
unfolding number_said number_from
number_one = one_to_one number_said number_from back
  where
    back : (a : Option ℕ) → number_from (number_said a) ≡ a
    back (Some n) = refl
    back None = refl
