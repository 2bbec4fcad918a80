-- The register is linear: the steps of a sum without carries are the sum of the steps. Bytes that are nought only take steps, so a
-- change of the register before n bytes is that change, n bytes further on, behind them, whatever the bytes.
use Rattle.std.specs.Prelude.{◌≡◌, refl, List, [], ◌∷◌, ◌++◌, ℕ, zero, suc, ◌+◌, ◌*◌, ◌/◌, ◌%◌, ◌^◌, ◌≤◌, ◌<◌, length}
use Rattle.std.proofs.Common.{sym, ap, ap₂, ◌∙◌, mod-lt, zero-add, suc-add, lt_of_lt_of_le, arith, pow_pos}
use Rattle.std.proofs.Math.Nat.{pow-le-pow_right, one-le-pow, two-pow-succ}
use Rattle.std.proofs.Math.Pow.{split}
use Rattle.std.specs.Int.Bits.{bit_xor, xor_zero_r, xor_self, xor_shifted, shifted_half, shifted_even}
use Rattle.std.proofs.lemmas.Nat.{xor_comm, xor_lt}
use Rattle.base.specs.Bytes.{Bytes}
use Rattle.base.specs.XorLaws.{xor_half, xor_odd, xor_assoc, xor_swap, xor_twice, xor_eq}
use Rattle.crc.specs.Crc.{bit_step, bit_steps, byte_step, bytes_from}
use Rattle.crc.specs.Octets.{octets, word}

-- ---- steps

-- a digit times a sum is the sum of the products
pub digit_xor : (x a b : ℕ) → x < 2 → x * bit_xor a b ≡ bit_xor (x * a) (x * b)
digit_xor zero a b h =
    let z : (c : ℕ) → 0 * c ≡ 0 = λ c. omega arith in
    z (bit_xor a b) ∙ sym (ap₂ bit_xor (z a) (z b))
digit_xor (suc zero) a b h =
    let z : (c : ℕ) → 1 * c ≡ c = λ c. omega arith in
    z (bit_xor a b) ∙ sym (ap₂ bit_xor (z a) (z b))
digit_xor (suc (suc x)) a b h = absurd (omega arith)

-- the sum of two digits, times the polynomial
scaled : (x y : ℕ) → x < 2 → y < 2 → (x + y) % 2 * 0xEDB88320 ≡ bit_xor (x * 0xEDB88320) (y * 0xEDB88320)
scaled zero zero h k = refl
scaled zero (suc zero) h k = refl
scaled zero (suc (suc y)) h k = absurd (omega arith)
scaled (suc zero) zero h k = refl
scaled (suc zero) (suc zero) h k = refl
scaled (suc zero) (suc (suc y)) h k = absurd (omega arith)
scaled (suc (suc x)) y h k = absurd (omega arith)

pub bit_step-xor : (a b : ℕ) → bit_step (bit_xor a b) ≡ bit_xor (bit_step a) (bit_step b)
unfolding bit_step
bit_step-xor a b =
    let e : bit_xor a b % 2 ≡ (a % 2 + b % 2) % 2 = omega (arith, xor_odd a b) in
    ap₂ bit_xor (ap (λ (x : ℕ). x * 0xEDB88320) e ∙ scaled (a % 2) (b % 2) (omega arith) (omega arith)) (xor_half a b)
    ∙ xor_swap (a % 2 * 0xEDB88320) (b % 2 * 0xEDB88320) (a / 2) (b / 2)

pub bit_steps-xor : (n a b : ℕ) → bit_steps n (bit_xor a b) ≡ bit_xor (bit_steps n a) (bit_steps n b)
unfolding bit_steps
bit_steps-xor zero a b = refl
bit_steps-xor (suc n) a b = ap (bit_steps n) (bit_step-xor a b) ∙ bit_steps-xor n (bit_step a) (bit_step b)

pub bit_steps-add : (m n s : ℕ) → bit_steps (m + n) s ≡ bit_steps n (bit_steps m s)
unfolding bit_steps
bit_steps-add zero n s = ap (λ (k : ℕ). bit_steps k s) (zero-add n)
bit_steps-add (suc m) n s = ap (λ (k : ℕ). bit_steps k s) (suc-add m n) ∙ bit_steps-add m n (bit_step s)

-- a number whose low digits are clear only moves down
bit_step-even : (z n : ℕ) → bit_step (z * 2 ^ suc n) ≡ z * 2 ^ n
unfolding bit_step
bit_step-even z n = ap₂ (λ (x y : ℕ). bit_xor (x * 0xEDB88320) y) (shifted_even z n) (shifted_half z n)

pub bit_steps-shift : (n z : ℕ) → bit_steps n (z * 2 ^ n) ≡ z
unfolding bit_steps
bit_steps-shift zero z = omega arith
bit_steps-shift (suc n) z = ap (bit_steps n) (bit_step-even z n) ∙ bit_steps-shift n z

pub bit_steps-zero : (n : ℕ) → bit_steps n 0 ≡ 0
bit_steps-zero n =
    let z : 0 ≡ 0 * 2 ^ n = omega arith in
    ap (bit_steps n) z ∙ bit_steps-shift n 0

-- the low digits go through the steps, and the others move down beside them
pub bit_steps-over : (n x z : ℕ) → bit_steps n (bit_xor x (z * 2 ^ n)) ≡ bit_xor (bit_steps n x) z
bit_steps-over n x z = bit_steps-xor n x (z * 2 ^ n) ∙ ap (bit_xor (bit_steps n x)) (bit_steps-shift n z)

pub bit_steps-split : (n x : ℕ) → bit_steps n x ≡ bit_xor (bit_steps n (x % 2 ^ n)) (x / 2 ^ n)
bit_steps-split n x =
    ap (bit_steps n)
    (sym (split x n) ∙ sym (xor_shifted (x / 2 ^ n) n (x % 2 ^ n) (mod-lt x (pow_pos n))) ∙ xor_comm (x / 2 ^ n * 2 ^ n) (x % 2 ^ n))
    ∙ bit_steps-over n (x % 2 ^ n) (x / 2 ^ n)

pub wider : {z : ℕ} (i j : ℕ) → z < 2 ^ i → i ≤ j → z < 2 ^ j
wider i j h l = lt_of_lt_of_le h (pow-le-pow_right (omega arith) {i = i} l)

-- a step takes a digit off, down to 32
bit_step-down : (k z : ℕ) → 32 ≤ k → z < 2 ^ suc k → bit_step z < 2 ^ k
unfolding bit_step
bit_step-down k z h l =
    let p : z % 2 * 0xEDB88320 < 2 ^ 32 = omega arith in
    xor_lt k (z % 2 * 0xEDB88320) (z / 2) (wider 32 k p h) (omega (arith, two-pow-succ k))

pub bit_steps-down : (n k z : ℕ) → 32 ≤ k → z < 2 ^ (n + k) → bit_steps n z < 2 ^ k
unfolding bit_steps
bit_steps-down zero k z h l = rw zero-add at l
bit_steps-down (suc n) k z h l = bit_steps-down n k (bit_step z) h (bit_step-down (n + k) z (omega arith) (rw suc-add at l))

pub bit_steps-lt : (n z : ℕ) → z < 2 ^ 32 → bit_steps n z < 2 ^ 32
bit_steps-lt n z h = bit_steps-down n 32 z (omega arith) (wider 32 (n + 32) h (omega arith))

-- no register of 32 digits but nought goes to nought
bit_step-nought : (z : ℕ) → z < 2 ^ 32 → bit_step z ≡ 0 → z ≡ 0
unfolding bit_step
bit_step-nought z h e = omega (arith, xor_eq (z % 2 * 0xEDB88320) (z / 2) e)

pub bit_steps-nought : (n z : ℕ) → z < 2 ^ 32 → bit_steps n z ≡ 0 → z ≡ 0
unfolding bit_steps
bit_steps-nought zero z h e = e
bit_steps-nought (suc n) z h e = bit_step-nought z h (bit_steps-nought n (bit_step z) (bit_step-down 32 z (omega arith) (omega arith)) e)

-- ---- bytes that are nought

pub octets_suc : (n s : ℕ) → octets (suc n) s ≡ octets n (bit_steps 8 s)
unfolding octets
octets_suc n s =
    let e : 8 * suc n ≡ 8 + 8 * n = omega arith in
    ap (λ (k : ℕ). bit_steps k s) e ∙ bit_steps-add 8 (8 * n) s

pub octets_add : (m n s : ℕ) → octets (m + n) s ≡ octets n (octets m s)
unfolding octets
octets_add m n s =
    let e : 8 * (m + n) ≡ 8 * m + 8 * n = omega arith in
    ap (λ (k : ℕ). bit_steps k s) e ∙ bit_steps-add (8 * m) (8 * n) s

pub octets_xor : (n a b : ℕ) → octets n (bit_xor a b) ≡ bit_xor (octets n a) (octets n b)
unfolding octets
octets_xor n a b = bit_steps-xor (8 * n) a b

pub octets_lt : (n z : ℕ) → z < 2 ^ 32 → octets n z < 2 ^ 32
unfolding octets
octets_lt n z h = bit_steps-lt (8 * n) z h

pub octets_nought : (n z : ℕ) → z < 2 ^ 32 → octets n z ≡ 0 → z ≡ 0
unfolding octets
octets_nought n z h e = bit_steps-nought (8 * n) z h e

-- ---- any bytes

pub bytes_from-append : (s : ℕ) (u v : List ℕ) → bytes_from s (u ++ v) ≡ bytes_from (bytes_from s u) v
unfolding bytes_from
bytes_from-append s [] v = refl
bytes_from-append s (b ∷ u) v = bytes_from-append (byte_step s b) u v

-- the bytes may all go into the register at once, and the steps be taken after
pub at_once : (s : ℕ) (bs : List ℕ) → bytes_from s bs ≡ octets (length bs) (bit_xor s (word bs))
unfolding bytes_from word byte_step bit_steps octets
at_once s [] = sym (xor_zero_r s)
at_once s (b ∷ bs) =
    at_once (bit_steps 8 (bit_xor s b)) bs
    ∙ ap (octets (length bs)) (sym (bit_steps-over 8 (bit_xor s b) (word bs)) ∙ ap (bit_steps 8) (xor_assoc s b (word bs * 2 ^ 8)))
    ∙ sym (octets_suc (length bs) (bit_xor s (bit_xor b (word bs * 2 ^ 8))))

-- a change of the register before the bytes is a change of the register behind them
pub carried : (s t : ℕ) (bs : List ℕ) → bytes_from (bit_xor s t) bs ≡ bit_xor (bytes_from s bs) (octets (length bs) t)
carried s t bs =
    at_once (bit_xor s t) bs
    ∙ ap (octets (length bs)) (xor_assoc s t (word bs) ∙ ap (bit_xor s) (xor_comm t (word bs)) ∙ sym (xor_assoc s (word bs) t))
    ∙ octets_xor (length bs) (bit_xor s (word bs)) t
    ∙ ap (λ (x : ℕ). bit_xor x (octets (length bs) t)) (sym (at_once s bs))

-- so bytes that are carried twice, with and without a change, tell what became of it
pub apart : (s t : ℕ) (bs : List ℕ) → bit_xor (bytes_from (bit_xor s t) bs) (bytes_from s bs) ≡ octets (length bs) t
apart s t bs =
    let x : ℕ = bytes_from s bs in
    let y : ℕ = octets (length bs) t in
    ap (λ (z : ℕ). bit_xor z x) (carried s t bs ∙ xor_comm x y) ∙ xor_twice y x

-- two registers and two lists of one length: the difference of what comes out is the difference of what went in, so many bytes on
pub difference : (s t : ℕ) (v w : List ℕ) → length v ≡ length w
    → bit_xor (bytes_from s v) (bytes_from t w) ≡ octets (length v) (bit_xor (bit_xor s t) (bit_xor (word v) (word w)))
difference s t v w e =
    ap₂ bit_xor (at_once s v) (at_once t w ∙ ap (λ (n : ℕ). octets n (bit_xor t (word w))) (sym e))
    ∙ sym (octets_xor (length v) (bit_xor s (word v)) (bit_xor t (word w)))
    ∙ ap (octets (length v)) (xor_swap s (word v) t (word w))

-- other bytes in the middle: what they change, carried over those behind them
pub patched : (s : ℕ) (pre v w post : List ℕ) → length v ≡ length w
    → bytes_from s (pre ++ v ++ post) ≡ bit_xor (bytes_from s (pre ++ w ++ post)) (octets (length post) (bit_xor (bytes_from 0 v) (bytes_from 0 w)))
patched s pre v w post e =
    parts v ∙ ap (λ (r : ℕ). bytes_from r post) after ∙ carried (bytes_from x w) d post
    ∙ ap (λ (r : ℕ). bit_xor r (octets (length post) d)) (sym (parts w))
  where
    x : ℕ
    x = bytes_from s pre

    d : ℕ
    d = bit_xor (bytes_from 0 v) (bytes_from 0 w)

    parts : (u : List ℕ) → bytes_from s (pre ++ u ++ post) ≡ bytes_from (bytes_from x u) post
    parts u = bytes_from-append s (pre ++ u) post ∙ ap (λ (r : ℕ). bytes_from r post) (bytes_from-append s pre u)

    apart : bit_xor (bytes_from x v) (bytes_from x w) ≡ d
    apart =
        difference x x v w e ∙ ap (λ (y : ℕ). octets (length v) (bit_xor y (bit_xor (word v) (word w)))) (xor_self x)
        ∙ sym (difference 0 0 v w e)

    after : bytes_from x v ≡ bit_xor (bytes_from x w) d
    after =
        sym (xor_twice (bytes_from x v) (bytes_from x w)) ∙ ap (λ (y : ℕ). bit_xor y (bytes_from x w)) apart ∙ xor_comm d (bytes_from x w)

-- ---- bytes as a number

-- a byte and what stands above it
pub low_byte : (b w : ℕ) → b < 256 → bit_xor b (w * 2 ^ 8) ≡ w * 256 + b
low_byte b w h = xor_comm b (w * 2 ^ 8) ∙ xor_shifted w 8 b h

pub word_lt : (n : ℕ) (w : List ℕ) → Bytes w → length w ≤ n → word w < 256 ^ n
unfolding word
word_lt n [] h k = one-le-pow n 256 (omega arith)
word_lt zero (b ∷ w) h k = absurd (omega arith)
word_lt (suc n) (b ∷ w) h k = omega (arith, low_byte b (word w) h.0, word_lt n w h.1 (omega arith))

pub word_same : (v w : List ℕ) → Bytes v → Bytes w → length v ≡ length w → word v ≡ word w → v ≡ w
unfolding word
word_same [] [] h k e p = refl
word_same [] (b ∷ w) h k e p = absurd (omega arith)
word_same (a ∷ v) [] h k e p = absurd (omega arith)
word_same (a ∷ v) (b ∷ w) h k e p =
    let q : word v * 256 + a ≡ word w * 256 + b = sym (low_byte a (word v) h.0) ∙ p ∙ low_byte b (word w) k.0 in
    ap₂ {C = List ℕ} (λ x r. x ∷ r) (omega arith) (word_same v w h.1 k.1 (omega arith) (omega arith))
