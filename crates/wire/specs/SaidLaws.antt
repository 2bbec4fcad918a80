-- What an answer says tells it apart from every other of its kind.
use Rattle.std.specs.Prelude.{ℕ, zero, suc, List, ◌≡◌, refl, get_or, Result, Ok, Err}
use Rattle.std.proofs.Common.{ap}
use Rattle.base.specs.Said.{Said}
use Rattle.base.specs.SaidLaws.{one_to_one}
use Rattle.wire.specs.Refusal.{result_said}
use Rattle.wire.specs.TypeNumber.{class_numbered, new_method_said, type_number_said, from_number_said}
use Rattle.wire.specs.TypeLaws.{class_numbered_lem}
use Rattle.wire.specs.declared.method.Method.{Method}
use Rattle.wire.specs.declared.refusal.Refusal.{Refusal}
use Rattle.wire.specs.declared.types.MessageClass.{MessageClass}
use Rattle.wire.specs.declared.types.MessageType.{MessageType}

-- of any values that tell what was asked for
module _ {A : Type 0} (values : A → List ℕ) (from : List ℕ → A) (back : (a : A) → from (values a) ≡ a) where
  result_from : Said → Result A Refusal
  result_from s = by s.kind
    where
      by : ℕ → Result A Refusal
      by zero = Ok (from s.values)
      by (suc k) = Err (record { number = s.number })

  pub result_one : {a b : Result A Refusal} → result_said values a ≡ result_said values b → a ≡ b
  unfolding result_said result_from
  result_one = one_to_one (result_said values) result_from again
    where
      again : (a : Result A Refusal) → result_from (result_said values a) ≡ a
      again (Ok a) = ap (λ (x : A). Ok x) (back a)
      again (Err r) = refl

pub new_method_one : {a b : Result Method Refusal} → new_method_said a ≡ new_method_said b → a ≡ b
unfolding new_method_said
new_method_one = result_one _ (λ v. record { code = get_or v 0 0 }) (λ m. refl)

pub type_number_one : {a b : Result ℕ Refusal} → type_number_said a ≡ type_number_said b → a ≡ b
unfolding type_number_said
type_number_one = result_one _ (λ v. get_or v 0 0) (λ n. refl)

pub from_number_one : {a b : Result MessageType Refusal} → from_number_said a ≡ from_number_said b → a ≡ b
unfolding from_number_said
from_number_one =
    result_one _ (λ v. record { class = class_numbered (get_or v 0 0); method = record { code = get_or v 1 0 } })
    (λ t. ap (λ (c : MessageClass). record { class = c; method = t.method }) (class_numbered_lem t.class))
