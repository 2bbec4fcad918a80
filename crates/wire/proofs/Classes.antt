-- The class of a number, and the numbers that are refused.
use Rattle.std.proofs.Common.{ℕ, zero, suc, ◌+◌, ◌*◌, ◌/◌, ◌%◌, ◌<◌, ◌≡◌, refl, Ok, arith, lt-ltb, le-ltb}
use Rattle.wire.specs.TypeNumber.{type_of, class_of, method_of, class_number, at_most_three, type_number, type_from, type_number_said, from_number_said}
use Rattle.wire.specs.TypeLaws.{class_small, class_is}
use Rattle.wire.specs.declared.types.MessageClass.{MessageClass}
use Rattle.wire.specs.declared.types.MessageType.{MessageType}

pub class_below : {x : ℕ} (c : MessageClass) → x ≡ class_number c → x < 4
class_below c e = omega (arith, class_small c)

-- what is made where nothing is refused
pub numbered : {c n : ℕ} (t : MessageType) → t.method.code < 4096 → c ≡ class_number t.class → n ≡ type_of c t.method.code
    → type_number_said (Ok n) ≡ type_number_said (type_number t)
unfolding type_number
numbered t h e f = rw (lt-ltb t.method.code 4096 h, f, e)

-- the arms of the match on a class's number
pub arm_0 : {n : ℕ} → n ≡ 0 → 0 ≡ at_most_three n
unfolding at_most_three
arm_0 e = rw e

pub arm_1 : {n : ℕ} → n ≡ 1 → 1 ≡ at_most_three n
unfolding at_most_three
arm_1 e = rw e

pub arm_2 : {n : ℕ} → n ≡ 2 → 2 ≡ at_most_three n
unfolding at_most_three
arm_2 e = rw e

pub arm_rest : (n : ℕ) → (n ≡ 0 → ⊥) → (n ≡ 1 → ⊥) → (n ≡ 2 → ⊥) → 3 ≡ at_most_three n
unfolding at_most_three
arm_rest zero a b e = absurd (a refl)
arm_rest (suc zero) a b e = absurd (b refl)
arm_rest (suc (suc zero)) a b e = absurd (e refl)
arm_rest (suc (suc (suc n))) a b e = rw (le-ltb (suc (suc (suc n))) 3 (omega arith))

pub known : (k : MessageClass) (n : ℕ) → n < 16384 → class_number k ≡ at_most_three (n / 256 % 2 * 2 + n / 16 % 2)
    → from_number_said (Ok (record { class = k; method = record { code = n / 512 * 128 + n / 32 % 8 * 16 + n % 16 } })) ≡ from_number_said (type_from n)
unfolding type_from class_of method_of
known k n h e = rw (lt-ltb n 16384 h, class_is _ k e)
