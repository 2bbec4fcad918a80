-- What a call says of another call's result is said of what that result equals.
use Rattle.std.specs.Prelude.{◌≡◌}
use Rattle.std.proofs.Common.{ap, ◌∙◌}

pub through : {A B : Type 0} (f : A → B) {w x : A} {r : B} → w ≡ x → r ≡ f w → r ≡ f x
through f e g = g ∙ ap f e
