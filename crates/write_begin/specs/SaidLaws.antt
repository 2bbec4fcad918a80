-- What an answer says tells it apart from every other.
use Rattle.std.specs.Prelude.{ℕ, ◌≡◌, refl, get_or, Result}
use Rattle.wire.specs.SaidLaws.{result_one}
use Rattle.wire.specs.declared.refusal.Refusal.{Refusal}
use Rattle.write_begin.specs.Begin.{written_said}

pub written_one : {a b : Result ℕ Refusal} → written_said a ≡ written_said b → a ≡ b
unfolding written_said
written_one = result_one _ (λ v. get_or v 0 0) (λ n. refl)
