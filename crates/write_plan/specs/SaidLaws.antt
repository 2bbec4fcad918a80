-- What an answer says tells it apart from every other.
use Rattle.std.specs.Prelude.{◌≡◌, refl, get_or, Result}
use Rattle.wire.specs.SaidLaws.{result_one}
use Rattle.wire.specs.declared.refusal.Refusal.{Refusal}
use Rattle.write_plan.specs.Plan.{plan_said}
use Rattle.write_plan.specs.declared.Room.{Room}

pub plan_one : {a b : Result Room Refusal} → plan_said a ≡ plan_said b → a ≡ b
unfolding plan_said
plan_one = result_one _ (λ v. record { at = get_or v 0 0; body = get_or v 1 0; total = get_or v 2 0 }) (λ r. refl)
