-- Any number of steps by one product: what m = bit_steps n 0x8000_0000 became tells what every register becomes.
use Rattle.std.specs.Prelude.{◌≡◌, refl, ℕ, zero, suc, ◌+◌, ◌*◌, ◌/◌, ◌%◌, ◌^◌, ◌<◌}
use Rattle.std.proofs.Common.{sym, ap, ap₂, ◌∙◌, subst, arith, add-mul, mul_assoc, mod-lt, pow-suc, pow-add, pow_pos, shl_lt, shr_lt}
use Rattle.std.proofs.Math.Pow.{split}
use Rattle.std.specs.Int.Bits.{bit_xor, xor_shifted}
use Rattle.base.specs.XorLaws.{xor_swap}
use Rattle.crc.specs.Crc.{bit_step, bit_steps}
use Rattle.crc.specs.Octets.{octets, times}
use Rattle.crc.proofs.CrcLaws.{digit_xor, bit_step-xor, bit_steps-xor, bit_steps-add, bit_steps-shift, bit_steps-zero}

-- the product is linear in m
pub times_xor : (k t m n : ℕ) → t < 2 ^ 32 → times k t (bit_xor m n) ≡ bit_xor (times k t m) (times k t n)
unfolding times
times_xor zero t m n h = refl
times_xor (suc k) t m n h =
    let u : ℕ = t % 2 ^ 31 * 2 in
    ap₂ bit_xor (digit_xor (t / 2 ^ 31) m n (omega arith))
    (ap (times k u) (bit_step-xor m n) ∙ times_xor k u (bit_step m) (bit_step n) (omega arith))
    ∙ xor_swap (t / 2 ^ 31 * m) (t / 2 ^ 31 * n) (times k u (bit_step m)) (times k u (bit_step n))

-- no digit, nothing added
pub times_nought : (k m : ℕ) → times k 0 m ≡ 0
unfolding times
times_nought zero m = refl
times_nought (suc k) m = let z : 0 / 2 ^ 31 * m ≡ 0 = omega arith in ap₂ bit_xor z (times_nought k (bit_step m))

-- a digit times the register
digit : (n z b : ℕ) → b < 2 → b * bit_steps n z ≡ bit_steps n (b * z)
digit n z zero h =
    let x : 0 * bit_steps n z ≡ 0 = omega arith in
    let y : 0 ≡ 0 * z = omega arith in
    x ∙ sym (bit_steps-zero n) ∙ ap (bit_steps n) y
digit n z (suc zero) h =
    let x : 1 * bit_steps n z ≡ bit_steps n z = omega arith in
    let y : z ≡ 1 * z = omega arith in
    x ∙ ap (bit_steps n) y
digit n z (suc (suc b)) h = absurd (omega arith)

-- what a digit adds that stands j places below the highest
placed : (n j c b : ℕ) → b < 2 → c + j ≡ 31 → b * bit_steps (j + n) (2 ^ 31) ≡ bit_steps n (b * 2 ^ c)
placed n j c b h e =
    digit (j + n) (2 ^ 31) b h ∙ bit_steps-add j n (b * 2 ^ 31)
    ∙ ap (bit_steps n)
    (ap (bit_steps j) (ap (λ (i : ℕ). b * 2 ^ i) (sym e) ∙ ap (λ (x : ℕ). b * x) (pow-add 2 c j) ∙ sym (mul_assoc b (2 ^ c) (2 ^ j)))
    ∙ bit_steps-shift j (b * 2 ^ c))

-- x has k digits, of which j were taken before
along : (n k j x : ℕ) → k + j ≡ 32 → x < 2 ^ k → times k (x * 2 ^ j) (bit_steps (j + n) (2 ^ 31)) ≡ bit_steps n x
unfolding times bit_steps
along n zero j x e h =
    let z : x ≡ 0 = omega arith in
    sym (ap (bit_steps n) z ∙ bit_steps-zero n)
along n (suc k) j x e h =
    ap₂ bit_xor (ap (λ (y : ℕ). y * bit_steps (j + n) (2 ^ 31)) high ∙ placed n j k b b_lt (omega arith))
    (ap₂ (times k) (ap (λ (y : ℕ). y * 2) low ∙ twice) next ∙ along n k (suc j) y (omega arith) (mod-lt x (pow_pos k)))
    ∙ sym (bit_steps-xor n (b * 2 ^ k) y)
    ∙ ap (bit_steps n) (xor_shifted b k y (mod-lt x (pow_pos k)) ∙ split x k)
  where
    b : ℕ
    b = x / 2 ^ k

    y : ℕ
    y = x % 2 ^ k

    f : suc k ≡ 1 + k
    f = omega arith

    b_lt : b < 2
    b_lt = shr_lt {n = x} 1 k (rw f at h)

    g : k + j ≡ 31
    g = omega arith

    parts : x * 2 ^ j ≡ b * 2 ^ 31 + y * 2 ^ j
    parts =
        ap (λ (z : ℕ). z * 2 ^ j) (sym (split x k)) ∙ add-mul (b * 2 ^ k) y (2 ^ j)
        ∙ ap (λ (z : ℕ). z + y * 2 ^ j) (mul_assoc b (2 ^ k) (2 ^ j) ∙ ap (λ (z : ℕ). b * z) (sym (pow-add 2 k j) ∙ ap (λ (i : ℕ). 2 ^ i) g))

    small : y * 2 ^ j < 2 ^ 31
    small = subst (λ (i : ℕ). y * 2 ^ j < 2 ^ i) g (shl_lt {a = y} k j (mod-lt x (pow_pos k)))

    high : x * 2 ^ j / 2 ^ 31 ≡ b
    high = omega (arith, parts, small)

    low : x * 2 ^ j % 2 ^ 31 ≡ y * 2 ^ j
    low = omega (arith, parts, small)

    twice : y * 2 ^ j * 2 ≡ y * 2 ^ suc j
    twice = mul_assoc y (2 ^ j) 2 ∙ ap (λ (z : ℕ). y * z) (sym (pow-suc 2 j))

    next : bit_step (bit_steps (j + n) (2 ^ 31)) ≡ bit_steps (suc j + n) (2 ^ 31)
    next =
        let i : j + n + 1 ≡ suc j + n = omega arith in
        sym (bit_steps-add (j + n) 1 (2 ^ 31)) ∙ ap (λ (z : ℕ). bit_steps z (2 ^ 31)) i

pub product_steps : (n t : ℕ) → t < 2 ^ 32 → times 32 t (bit_steps n 0x8000_0000) ≡ bit_steps n t
product_steps n t h =
    let z : t ≡ t * 2 ^ 0 = omega arith in
    let w : n ≡ 0 + n = omega arith in
    ap₂ (times 32) z (ap (λ (i : ℕ). bit_steps i (2 ^ 31)) w) ∙ along n 32 0 t (omega arith) h

-- THE PRODUCT: 32 steps do what n bytes that are nought would
pub product : (n t : ℕ) → t < 2 ^ 32 → times 32 t (octets n 0x8000_0000) ≡ octets n t
unfolding octets
product n t h = product_steps (8 * n) t h
