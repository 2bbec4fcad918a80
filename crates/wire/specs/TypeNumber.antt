-- Class, method and the type number (RFC 5389 section 6, figure 3; docs/SCOPE.md, "The type number").
use Rattle.std.specs.Prelude.{ℕ, zero, suc, ◌+◌, ◌*◌, ◌/◌, ◌%◌, [], ◌∷◌, ltb, Result, Ok, Err}
use Rattle.base.specs.Choice.{pick}
use Rattle.base.specs.Said.{Said}
use Rattle.wire.specs.Refusal.{by, result_said}
use Rattle.wire.specs.declared.method.Method.{Method}
use Rattle.wire.specs.declared.refusal.Refusal.{Refusal}
use Rattle.wire.specs.declared.types.MessageClass.{MessageClass}
use Rattle.wire.specs.declared.types.MessageClass.TheVariants.{Request, Indication, SuccessResponse, ErrorResponse}
use Rattle.wire.specs.declared.types.MessageType.{MessageType}

-- from bit 13 down to bit 0: M11..M7, C1, M6..M4, C0, M3..M0
unfoldable pub type_of : ℕ → ℕ → ℕ
type_of c m = m / 128 * 512 + c / 2 * 256 + m / 16 % 8 * 32 + c % 2 * 16 + m % 16

-- the same bits, read
unfoldable pub class_of : ℕ → ℕ
class_of t = t / 256 % 2 * 2 + t / 16 % 2

unfoldable pub method_of : ℕ → ℕ
method_of t = t / 512 * 128 + t / 32 % 8 * 16 + t % 16

abbrev pub class_number : MessageClass → ℕ
class_number Request = 0
class_number Indication = 1
class_number SuccessResponse = 2
class_number ErrorResponse = 3

unfoldable pub class_numbered : ℕ → MessageClass
class_numbered zero = Request
class_numbered (suc zero) = Indication
class_numbered (suc (suc zero)) = SuccessResponse
class_numbered (suc (suc (suc n))) = ErrorResponse

-- of a number that is none of a class, the last counts
unfoldable pub at_most_three : ℕ → ℕ
at_most_three n = pick (ltb n 3) n 3

-- a method is a number of twelve bits: else 22
unfoldable pub method_made : ℕ → Result Method Refusal
method_made m = pick (ltb m 4096) (Ok (record { code = m })) (Err (by 22))

unfoldable pub type_number : MessageType → Result ℕ Refusal
type_number t = pick (ltb t.method.code 4096) (Ok (type_of (class_number t.class) t.method.code)) (Err (by 22))

-- the top two bits are zero: else 2
unfoldable pub type_from : ℕ → Result MessageType Refusal
type_from n = pick (ltb n 16384) (Ok (record { class = class_numbered (class_of n); method = record { code = method_of n } })) (Err (by 2))

-- what each answer says: the values of what was asked for, or refused by a number
unfoldable pub new_method_said : Result Method Refusal → Said
new_method_said = result_said (λ (m : Method). m.code ∷ [])

unfoldable pub type_number_said : Result ℕ Refusal → Said
type_number_said = result_said (λ (t : ℕ). t ∷ [])

unfoldable pub from_number_said : Result MessageType Refusal → Said
from_number_said = result_said (λ (t : MessageType). class_number t.class ∷ t.method.code ∷ [])
