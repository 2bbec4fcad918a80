-- Laws of `bit_xor` beside the library's: it works digit by digit, is associative, and cancels.
use Rattle.std.specs.Prelude.{◌≡◌, refl, ℕ, zero, suc, ◌+◌, ◌*◌, ◌/◌, ◌%◌, ◌<◌}
use Rattle.std.proofs.Common.{sym, ap, ◌∙◌, add_assoc, arith}
use Rattle.std.proofs.Math.Arith.{bin_ind}
use Rattle.std.specs.Int.Bits.{bit_xor, differ, xor_step, xor_zero_r, xor_self}
use Rattle.std.proofs.lemmas.Nat.{xor_comm}

-- of two binary digits
digit : (x y : ℕ) → x < 2 → y < 2 → differ x y ≡ (x + y) % 2
digit zero zero h k = refl
digit zero (suc zero) h k = refl
digit zero (suc (suc y)) h k = absurd (omega arith)
digit (suc zero) zero h k = refl
digit (suc zero) (suc zero) h k = refl
digit (suc zero) (suc (suc y)) h k = absurd (omega arith)
digit (suc (suc x)) y h k = absurd (omega arith)

step : (a b : ℕ) → bit_xor a b ≡ bit_xor (a / 2) (b / 2) * 2 + (a + b) % 2
step a b = omega (arith, xor_step a b, digit (a % 2) (b % 2) (omega arith) (omega arith))

pub xor_half : (a b : ℕ) → bit_xor a b / 2 ≡ bit_xor (a / 2) (b / 2)
xor_half a b = omega (arith, step a b)

pub xor_odd : (a b : ℕ) → bit_xor a b % 2 ≡ (a + b) % 2
xor_odd a b = omega (arith, step a b)

-- two numbers are equal where their halves and their low digits are
pub same : (x y : ℕ) → x / 2 ≡ y / 2 → x % 2 ≡ y % 2 → x ≡ y
same x y p q = omega arith

odd_left : (x y c : ℕ) → x % 2 ≡ y % 2 → (x + c) % 2 ≡ (y + c) % 2
odd_left x y c p = omega arith

odd_right : (x y c : ℕ) → x % 2 ≡ y % 2 → (c + x) % 2 ≡ (c + y) % 2
odd_right x y c p = omega arith

pub xor_assoc : (a b c : ℕ) → bit_xor (bit_xor a b) c ≡ bit_xor a (bit_xor b c)
xor_assoc a =
    bin_ind (λ (n : ℕ). (b c : ℕ) → bit_xor (bit_xor n b) c ≡ bit_xor n (bit_xor b c)) (λ b c. refl)
    (λ n ih b c.
    same (bit_xor (bit_xor n b) c) (bit_xor n (bit_xor b c))
    (xor_half (bit_xor n b) c ∙ ap (λ (x : ℕ). bit_xor x (c / 2)) (xor_half n b) ∙ ih (b / 2) (c / 2)
    ∙ sym (xor_half n (bit_xor b c) ∙ ap (bit_xor (n / 2)) (xor_half b c)))
    (xor_odd (bit_xor n b) c ∙ odd_left (bit_xor n b) (n + b) c (xor_odd n b) ∙ ap (λ (x : ℕ). x % 2) (add_assoc n b c)
    ∙ sym (xor_odd n (bit_xor b c) ∙ odd_right (bit_xor b c) (b + c) n (xor_odd b c))))
    a

pub xor_swap : (a b c d : ℕ) → bit_xor (bit_xor a b) (bit_xor c d) ≡ bit_xor (bit_xor a c) (bit_xor b d)
xor_swap a b c d =
    xor_assoc a b (bit_xor c d)
    ∙ ap (bit_xor a) (sym (xor_assoc b c d) ∙ ap (λ (x : ℕ). bit_xor x d) (xor_comm b c) ∙ xor_assoc c b d)
    ∙ sym (xor_assoc a c (bit_xor b d))

-- what is added twice is gone
pub xor_twice : (a b : ℕ) → bit_xor (bit_xor a b) b ≡ a
xor_twice a b = xor_assoc a b b ∙ ap (bit_xor a) (xor_self b) ∙ xor_zero_r a

pub xor_cancel : (a b c : ℕ) → bit_xor a c ≡ bit_xor b c → a ≡ b
xor_cancel a b c e = sym (xor_twice a c) ∙ ap (λ (x : ℕ). bit_xor x c) e ∙ xor_twice b c

-- numbers whose difference is nought are the same
pub xor_eq : (a b : ℕ) → bit_xor a b ≡ 0 → a ≡ b
xor_eq a b e = sym (xor_twice a b) ∙ ap (λ (x : ℕ). bit_xor x b) e
