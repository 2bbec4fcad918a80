-- A table's rule, proved at all of its entries by one test that antt computes; and a byte by its two halves.
use Rattle.std.specs.Prelude.{◌≡◌, Bool, true, false, ℕ, zero, suc, ◌+◌, ◌*◌, ◌/◌, ◌%◌, ◌^◌, ◌≤◌, ◌<◌, T, eqb, length, get_or, List, [], ◌∷◌}
use Rattle.std.proofs.Common.{ap₂, subst, ◌∙◌, add-zero, zero-add, add-suc, suc-add, le_of_suc-le-suc, not-suc-le-zero, arith, le-ltb, eqb→eq}
use Rattle.std.proofs.Math.Path.{refl, sym, ap}
use Rattle.std.specs.Int.Bits.{bit_xor, xor_zero_r}
use Rattle.base.specs.Choice.{pick}
use Rattle.base.specs.XorLaws.{xor_assoc}
use Rattle.crc.specs.Crc.{bit_steps, byte_step, bytes_from}
use Rattle.crc.specs.Octets.{octets}
use Rattle.crc.proofs.CrcLaws.{bit_steps-zero, bit_steps-xor, bit_steps-add, bit_steps-split, octets_suc, octets_xor}
use Rattle.crc_nibbles.specs.Rows.{Rows, halves, by_halves, four_halves, byte_by_byte, bytes_halves}

both_left : (a b : Bool) → T (pick a b false) → T a
both_left true b t = tt
both_left false b t = t

both_right : (a b : Bool) → T (pick a b false) → T b
both_right true b t = t
both_right false b t = absurd t

-- the test f passes at each entry of the list and its place, counted from i
abbrev pub every : (ℕ → ℕ → Bool) → ℕ → List ℕ → Bool
every f i [] = true
every f i (x ∷ xs) = pick (f i x) (every f (suc i) xs) false

from : (f : ℕ → ℕ → Bool) (xs : List ℕ) (i : ℕ) → T (every f i xs) → (k : ℕ) → k < length xs → T (f (i + k) (get_or xs k 0))
from f [] i t k h = absurd (not-suc-le-zero h)
from f (x ∷ xs) i t zero h = subst (λ (m : ℕ). T (f m x)) (sym (add-zero i)) (both_left (f i x) (every f (suc i) xs) t)
from f (x ∷ xs) i t (suc k) h =
    subst (λ (m : ℕ). T (f m (get_or xs k 0))) (suc-add i k ∙ sym (add-suc i k))
    (from f xs (suc i) (both_right (f i x) (every f (suc i) xs) t) k (le_of_suc-le-suc h))

-- a table of half bytes is right if this test says so
abbrev pub right : ℕ → ℕ → Bool
right k x = eqb x (bit_steps (4 * (k / 16 + 1)) (k % 16))

pub rows : (t : List ℕ) → T (every right 0 t) → Rows t
rows t h =
    record {
      entry =
          λ k l.
          eqb→eq (get_or t k 0) (bit_steps (4 * (k / 16 + 1)) (k % 16))
          (subst (λ (m : ℕ). T (right m (get_or t k 0))) (zero-add k) (from right t 0 h k l));
    }

-- a byte's low half has one half more behind it than its high half
pub look_is : (t : List ℕ) (k x : ℕ) → Rows t → k * 32 + 32 ≤ length t
    → halves t k x ≡ octets (suc k) (x % 256)
unfolding octets halves
look_is t k x h l =
    ap₂ bit_xor (h.entry (k * 32 + 16 + x % 16) (omega arith) ∙ ap₂ bit_steps p₁ p₂)
    (h.entry (k * 32 + x / 16 % 16) (omega arith) ∙ ap₂ bit_steps q₁ q₂)
    ∙ ap (λ (y : ℕ). bit_xor y (bit_steps m (x / 16 % 16))) (bit_steps-add 4 m (x % 16))
    ∙ sym
    (ap (λ (j : ℕ). bit_steps j (x % 256)) e ∙ bit_steps-add 4 m (x % 256)
    ∙ ap (bit_steps m) (bit_steps-split 4 (x % 256) ∙ ap₂ (λ (p q : ℕ). bit_xor (bit_steps 4 p) q) f g)
    ∙ bit_steps-xor m (bit_steps 4 (x % 16)) (x / 16 % 16))
  where
    m : ℕ
    m = 4 * (2 * k + 1)

    p₁ : 4 * ((k * 32 + 16 + x % 16) / 16 + 1) ≡ 4 + m
    p₁ = omega arith

    p₂ : (k * 32 + 16 + x % 16) % 16 ≡ x % 16
    p₂ = omega arith

    q₁ : 4 * ((k * 32 + x / 16 % 16) / 16 + 1) ≡ m
    q₁ = omega arith

    q₂ : (k * 32 + x / 16 % 16) % 16 ≡ x / 16 % 16
    q₂ = omega arith

    e : 8 * suc k ≡ 4 + m
    e = omega arith

    f : x % 256 % 16 ≡ x % 16
    f = omega arith

    g : x % 256 / 16 ≡ x / 16 % 16
    g = omega arith

-- the low byte goes through one byte's steps more than those above it
pub peel : (j y : ℕ) → octets (suc j) y ≡ bit_xor (octets (suc j) (y % 256)) (octets j (y / 256))
peel j y =
    octets_suc j y ∙ ap (octets j) (bit_steps-split 8 y) ∙ octets_xor j (bit_steps 8 (y % 256)) (y / 256)
    ∙ ap (λ (z : ℕ). bit_xor z (octets j (y / 256))) (sym (octets_suc j (y % 256)))

octets_nought : (n : ℕ) → octets n 0 ≡ 0
unfolding octets
octets_nought n = bit_steps-zero (8 * n)

-- a register of 32 digits, byte by byte, with the steps of r bytes more
pub four_bytes : (r x : ℕ) → x < 2 ^ 32
    → bit_xor (bit_xor (octets (suc (suc (suc (suc r)))) (x % 256)) (octets (suc (suc (suc r))) (x / 256 % 256)))
    (bit_xor (octets (suc (suc r)) (x / 65536 % 256)) (octets (suc r) (x / 16777216 % 256)))
    ≡ octets (suc (suc (suc (suc r)))) x
four_bytes r x k =
    xor_assoc (octets r₄ (x % 256)) (octets r₃ (x / 256 % 256)) (bit_xor (octets r₂ (x / 65536 % 256)) (octets (suc r) (x / 16777216 % 256)))
    ∙ sym (down r₃ x (x / 256) refl
    ∙ ap (bit_xor (octets r₄ (x % 256)))
    (down r₂ (x / 256) (x / 65536) (omega arith)
    ∙ ap (bit_xor (octets r₃ (x / 256 % 256)))
    (down (suc r) (x / 65536) (x / 16777216) (omega arith)
    ∙ ap (bit_xor (octets r₂ (x / 65536 % 256)))
    (down r (x / 16777216) 0 (omega arith) ∙ ap (bit_xor (octets (suc r) (x / 16777216 % 256))) (octets_nought r)
    ∙ xor_zero_r (octets (suc r) (x / 16777216 % 256))))))
  where
    r₂ : ℕ
    r₂ = suc (suc r)

    r₃ : ℕ
    r₃ = suc r₂

    r₄ : ℕ
    r₄ = suc r₃

    down : (j y z : ℕ) → y / 256 ≡ z → octets (suc j) y ≡ bit_xor (octets (suc j) (y % 256)) (octets j z)
    down j y z e = peel j y ∙ ap (λ (w : ℕ). bit_xor (octets (suc j) (y % 256)) (octets j w)) e

-- by eight rows of halves
by_halves_lem : (t : List ℕ) (x : ℕ) → Rows t → 128 ≤ length t → x < 2 ^ 32 → by_halves t x ≡ octets 4 x
unfolding by_halves
by_halves_lem t x h l k =
    ap₂ bit_xor (ap₂ bit_xor (look_is t 3 x h (omega arith)) (look_is t 2 (x / 256) h (omega arith)))
    (ap₂ bit_xor (look_is t 1 (x / 65536) h (omega arith)) (look_is t 0 (x / 16777216) h (omega arith)))
    ∙ four_bytes 0 x k

pub four_halves_lem : (t : List ℕ) (x : ℕ) → Rows t → 128 ≤ length t → x < 2 ^ 32 → four_halves t x ≡ octets 4 x
unfolding four_halves
four_halves_lem t x h l k = simp (le-ltb (length t) 128 l) (by_halves_lem t x h l k)

-- ---- bytes by two rows

module _ (t : List ℕ) (h : Rows t) (l : 32 ≤ length t) where
  one_byte : (x : ℕ) → bit_xor (halves t 0 x) (x / 256) ≡ bit_steps 8 x
  unfolding octets
  one_byte x = ap (λ (y : ℕ). bit_xor y (x / 256)) (look_is t 0 x h (omega arith)) ∙ sym (bit_steps-split 8 x)

  all_bytes_lem : (c : ℕ) (bs : List ℕ) → byte_by_byte t c bs ≡ bytes_from c bs
  unfolding byte_by_byte bytes_from byte_step
  all_bytes_lem c [] = refl
  all_bytes_lem c (b ∷ bs) =
      ap (λ (r : ℕ). byte_by_byte t r bs) (one_byte (bit_xor c b)) ∙ all_bytes_lem (bit_steps 8 (bit_xor c b)) bs

  pub bytes_halves_lem : (c : ℕ) (bs : List ℕ) → bytes_halves t c bs ≡ bytes_from c bs
  unfolding bytes_halves
  bytes_halves_lem c bs = simp (le-ltb (length t) 32 l) (all_bytes_lem c bs)
