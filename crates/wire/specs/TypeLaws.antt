-- The type number and its class and method are inverse to each other, on their whole range.
use Rattle.std.specs.Prelude.{ℕ, zero, suc, ◌+◌, ◌*◌, ◌/◌, ◌%◌, ◌<◌, ◌≡◌, refl, Ok}
use Rattle.std.proofs.Common.{sym, ap, ◌∙◌, lt-ltb, le-ltb}
use native.Mathlib.Omega.{arith}
use Rattle.wire.specs.TypeNumber.{type_of, class_of, method_of, class_number, class_numbered, at_most_three, type_number, type_from}
use Rattle.wire.specs.declared.types.MessageClass.{MessageClass}
use Rattle.wire.specs.declared.types.MessageClass.TheVariants.{Request, Indication, SuccessResponse, ErrorResponse}
use Rattle.wire.specs.declared.types.MessageType.{MessageType}

-- a number of five digits, and each of them again
abbrev five : ℕ → ℕ → ℕ → ℕ → ℕ → ℕ
five f e c b a = f * 512 + e * 256 + c * 32 + b * 16 + a

module _ (f e c b a : ℕ) (he : e < 2) (hc : c < 8) (hb : b < 2) (ha : a < 16) where
  digit_0 : five f e c b a % 16 ≡ a
  digit_0 = omega arith

  digit_1 : five f e c b a / 16 % 2 ≡ b
  digit_1 = omega arith

  digit_2 : five f e c b a / 32 % 8 ≡ c
  digit_2 = omega arith

  digit_3 : five f e c b a / 256 % 2 ≡ e
  digit_3 = omega arith

  digit_4 : five f e c b a / 512 ≡ f
  digit_4 = omega arith

module _ (c m : ℕ) (h : c < 4) where
  e2 : c / 2 < 2
  e2 = omega arith

  c8 : m / 16 % 8 < 8
  c8 = omega arith

  b2 : c % 2 < 2
  b2 = omega arith

  a16 : m % 16 < 16
  a16 = omega arith

  -- `type_back`: class and method of their type number
  pub class_back : class_of (type_of c m) ≡ c
  unfolding type_of class_of
  class_back =
      rw
      (digit_3 (m / 128) (c / 2) (m / 16 % 8) (c % 2) (m % 16) e2 c8 b2 a16, digit_1 (m / 128) (c / 2) (m / 16 % 8) (c % 2) (m % 16) e2 c8 b2 a16)
      (omega arith)

  pub method_back : method_of (type_of c m) ≡ m
  unfolding type_of method_of
  method_back =
      rw
      (digit_4 (m / 128) (c / 2) (m / 16 % 8) (c % 2) (m % 16) e2 c8 b2 a16, digit_2 (m / 128) (c / 2) (m / 16 % 8) (c % 2) (m % 16) e2 c8 b2 a16, digit_0 (m / 128) (c / 2) (m / 16 % 8) (c % 2) (m % 16) e2 c8 b2 a16)
      (again m)
    where
      again : (m : ℕ) → m / 128 * 128 + m / 16 % 8 * 16 + m % 16 ≡ m
      again m = omega arith

  pub type_below : m < 4096 → type_of c m < 16384
  unfolding type_of
  type_below l = omega arith

module _ (t : ℕ) (h : t < 16384) where
  pub class_below : class_of t < 4
  unfolding class_of
  class_below = omega arith

  pub method_below : method_of t < 4096
  unfolding method_of
  method_below = omega arith

  -- the type number of its class and method
  pub number_forth : type_of (class_of t) (method_of t) ≡ t
  unfolding type_of class_of method_of
  number_forth = rw (m4 (t / 512) (t / 32 % 8) (t % 16) c8 a16, m2 (t / 512) (t / 32 % 8) (t % 16) c8 a16, m0 (t / 512) (t / 32 % 8) (t % 16) c8 a16, c1 (t / 256 % 2) (t / 16 % 2) b2, c0 (t / 256 % 2) (t / 16 % 2) b2) (again t)
    where
      c8 : t / 32 % 8 < 8
      c8 = omega arith

      a16 : t % 16 < 16
      a16 = omega arith

      b2 : t / 16 % 2 < 2
      b2 = omega arith

      m4 : (f c a : ℕ) → c < 8 → a < 16 → (f * 128 + c * 16 + a) / 128 ≡ f
      m4 f c a h l = omega arith

      m2 : (f c a : ℕ) → c < 8 → a < 16 → (f * 128 + c * 16 + a) / 16 % 8 ≡ c
      m2 f c a h l = omega arith

      m0 : (f c a : ℕ) → c < 8 → a < 16 → (f * 128 + c * 16 + a) % 16 ≡ a
      m0 f c a h l = omega arith

      c1 : (e b : ℕ) → b < 2 → (e * 2 + b) / 2 ≡ e
      c1 e b l = omega arith

      c0 : (e b : ℕ) → b < 2 → (e * 2 + b) % 2 ≡ b
      c0 e b l = omega arith

      -- t digit by digit, from the lowest
      s0 : (t : ℕ) → t / 16 * 16 + t % 16 ≡ t
      s0 t = omega arith

      s1 : (t : ℕ) → t / 32 * 2 + t / 16 % 2 ≡ t / 16
      s1 t = omega arith

      s2 : (t : ℕ) → t / 256 * 8 + t / 32 % 8 ≡ t / 32
      s2 t = omega arith

      s3 : (t : ℕ) → t / 512 * 2 + t / 256 % 2 ≡ t / 256
      s3 t = omega arith

      sum : (t f e x c w b v a : ℕ) → v * 16 + a ≡ t → w * 2 + b ≡ v → x * 8 + c ≡ w → f * 2 + e ≡ x
          → f * 512 + e * 256 + c * 32 + b * 16 + a ≡ t
      sum t f e x c w b v a p q r s = omega arith

      again : (t : ℕ) → t / 512 * 512 + t / 256 % 2 * 256 + t / 32 % 8 * 32 + t / 16 % 2 * 16 + t % 16 ≡ t
      again t =
          sum t (t / 512) (t / 256 % 2) (t / 256) (t / 32 % 8) (t / 32) (t / 16 % 2) (t / 16) (t % 16) (s0 t) (s1 t) (s2 t) (s3 t)

pub class_numbered_lem : (c : MessageClass) → class_numbered (class_number c) ≡ c
unfolding class_numbered
class_numbered_lem Request = refl
class_numbered_lem Indication = refl
class_numbered_lem SuccessResponse = refl
class_numbered_lem ErrorResponse = refl

pub class_number_lem : (n : ℕ) → n < 4 → class_number (class_numbered n) ≡ n
unfolding class_numbered
class_number_lem zero h = refl
class_number_lem (suc zero) h = refl
class_number_lem (suc (suc zero)) h = refl
class_number_lem (suc (suc (suc zero))) h = refl
class_number_lem (suc (suc (suc (suc n)))) h = absurd (omega arith)

pub class_small : (c : MessageClass) → class_number c < 4
class_small Request = omega arith
class_small Indication = omega arith
class_small SuccessResponse = omega arith
class_small ErrorResponse = omega arith

-- a class is told by its number
pub class_is : (n : ℕ) (c : MessageClass) → class_number c ≡ at_most_three n → c ≡ class_numbered n
unfolding at_most_three class_numbered
class_is n c e = sym (class_numbered_lem c) ∙ ap class_numbered e ∙ last n
  where
    last : (n : ℕ) → class_numbered (at_most_three n) ≡ class_numbered n
    last zero = refl
    last (suc zero) = refl
    last (suc (suc zero)) = refl
    last (suc (suc (suc n))) = rw (le-ltb (suc (suc (suc n))) 3 (omega arith))

-- a class and a method, made a type number, are read from it
pub type_back : (t : MessageType) → t.method.code < 4096 → type_from (type_of (class_number t.class) t.method.code) ≡ Ok t
unfolding type_from
type_back t h =
    let c : ℕ = class_number t.class in
    let m : ℕ = t.method.code in
    rw (lt-ltb (type_of c m) 16384 (type_below c m (class_small t.class) h), class_back c m (class_small t.class), method_back c m (class_small t.class), class_numbered_lem t.class)

-- what is read from a type number makes that number again
pub type_forth : (n : ℕ) → n < 16384
    → type_number (record { class = class_numbered (class_of n); method = record { code = method_of n } }) ≡ Ok n
unfolding type_number
type_forth n h = rw (lt-ltb (method_of n) 4096 (method_below n h), class_number_lem (class_of n) (class_below n h), number_forth n h)
