-- The first function in three operations: the word that x does not choose, changed where x chooses the other.
use Rattle.std.proofs.Common.{◌≡◌, ℕ, zero, suc, ◌+◌, ◌-◌, ◌*◌, ◌/◌, ◌%◌, ◌^◌, ◌<◌, min, sym, refl, ap, ◌∙◌, mod-lt, pow-suc, arith, bit_and, bit_xor}
use Rattle.std.proofs.Math.Nat.{min-le_left}
use Rattle.std.specs.Int.Bits.{and_step}
use Rattle.base.specs.XorLaws.{same, xor_half, xor_odd}
use Rattle.sha1_digest.specs.Compression.{ch}

and_half : (a b : ℕ) → bit_and a b / 2 ≡ bit_and (a / 2) (b / 2)
and_half a b = omega (arith, and_step a b, min-le_left (a % 2) (b % 2))

and_odd : (a b : ℕ) → bit_and a b % 2 ≡ min (a % 2) (b % 2)
and_odd a b = omega (arith, and_step a b, min-le_left (a % 2) (b % 2))

odds : (a b : ℕ) {p q : ℕ} → a % 2 ≡ p → b % 2 ≡ q → bit_xor a b % 2 ≡ (p + q) % 2
odds a b e d = omega (arith, xor_odd a b)

-- of three binary digits
digits : (x y z : ℕ) → x < 2 → y < 2 → z < 2 → (z + min x ((y + z) % 2)) % 2 ≡ (min x y + min (1 - x) z) % 2
digits zero zero zero h k l = refl
digits zero zero (suc zero) h k l = refl
digits zero (suc zero) zero h k l = refl
digits zero (suc zero) (suc zero) h k l = refl
digits (suc zero) zero zero h k l = refl
digits (suc zero) zero (suc zero) h k l = refl
digits (suc zero) (suc zero) zero h k l = refl
digits (suc zero) (suc zero) (suc zero) h k l = refl
digits (suc (suc x)) y z h k l = absurd (omega arith)
digits zero (suc (suc y)) z h k l = absurd (omega arith)
digits (suc zero) (suc (suc y)) z h k l = absurd (omega arith)
digits zero zero (suc (suc z)) h k l = absurd (omega arith)
digits zero (suc zero) (suc (suc z)) h k l = absurd (omega arith)
digits (suc zero) zero (suc (suc z)) h k l = absurd (omega arith)
digits (suc zero) (suc zero) (suc (suc z)) h k l = absurd (omega arith)

chosen : (k x y z : ℕ) → x < 2 ^ k → y < 2 ^ k → z < 2 ^ k → bit_xor z (bit_and x (bit_xor y z)) ≡ bit_xor (bit_and x y) (bit_and (2 ^ k - 1 - x) z)
chosen zero x y z h i j =
    let e : x ≡ 0 = omega arith in
    let d : z ≡ 0 = omega arith in
    ap (λ (q : ℕ). bit_xor q (bit_and x (bit_xor y z))) d ∙ ap (λ (q : ℕ). bit_and q (bit_xor y z)) e
    ∙ sym (ap (λ (q : ℕ). bit_xor (bit_and q y) (bit_and (2 ^ 0 - 1 - q) z)) e)
chosen (suc k) x y z h i j =
    let p : 2 ^ suc k ≡ 2 ^ k * 2 = pow-suc 2 k in
    let n = 2 ^ suc k - 1 - x in
    let m : n / 2 ≡ 2 ^ k - 1 - x / 2 = omega (arith, p) in
    let o : n % 2 ≡ 1 - x % 2 = omega (arith, p) in
    let a = bit_and x (bit_xor y z) in
    let half : bit_xor z a / 2 ≡ bit_xor (bit_and x y) (bit_and n z) / 2 =
    xor_half z a ∙ ap (bit_xor (z / 2)) (and_half x (bit_xor y z) ∙ ap (bit_and (x / 2)) (xor_half y z))
    ∙ chosen k (x / 2) (y / 2) (z / 2) (omega (arith, p)) (omega (arith, p)) (omega (arith, p))
    ∙ sym (xor_half (bit_and x y) (bit_and n z) ∙ rw (and_half x y, and_half n z, m)) in
    let left : a % 2 ≡ min (x % 2) ((y % 2 + z % 2) % 2) = and_odd x (bit_xor y z) ∙ ap (min (x % 2)) (xor_odd y z ∙ omega arith) in
    let right : bit_and n z % 2 ≡ min (1 - x % 2) (z % 2) = and_odd n z ∙ ap (λ (q : ℕ). min q (z % 2)) o in
    let odd : bit_xor z a % 2 ≡ bit_xor (bit_and x y) (bit_and n z) % 2 =
    odds z a refl left ∙ digits (x % 2) (y % 2) (z % 2) (mod-lt x (omega arith)) (mod-lt y (omega arith)) (mod-lt z (omega arith))
    ∙ sym (odds (bit_and x y) (bit_and n z) (and_odd x y) right) in
    same (bit_xor z a) (bit_xor (bit_and x y) (bit_and n z)) half odd

pub choice_is : (x y z : ℕ) → x < 2 ^ 32 → y < 2 ^ 32 → z < 2 ^ 32 → bit_xor z (bit_and x (bit_xor y z)) ≡ ch x y z
choice_is x y z h i j = chosen 32 x y z h i j
