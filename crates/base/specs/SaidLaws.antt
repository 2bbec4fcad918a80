-- What can be had back from what it says is told apart by it.
use Rattle.std.specs.Prelude.{◌≡◌}
use Rattle.std.proofs.Common.{sym, ap, ◌∙◌}
use Rattle.base.specs.Said.{Said}

pub one_to_one : {A : Type 0} (said : A → Said) (from : Said → A) → ((x : A) → from (said x) ≡ x) → {a b : A} → said a ≡ said b → a ≡ b
one_to_one said from back {a} {b} e = sym (back a) ∙ ap from e ∙ back b
