-- Multiples of the polynomial: x^(64 + k), and x^(k - j) for each tap j. By such a one a word may as well be added at the taps.
use Rattle.std.proofs.Common.{◌≡◌, refl, sym, ap, ap₂, ◌∙◌, List, ℕ, ◌+◌, ◌-◌, ◌*◌, ◌/◌, ◌%◌, ◌^◌, ◌≤◌, ◌<◌, mod-lt, arith, length, pow_pos, shl_lt, bit_xor}
use Rattle.std.proofs.lemmas.Nat.{xor_comm, xor_lt}
use Rattle.crc.specs.Crc.{bit_step, bit_steps, bytes_from}
use Rattle.crc.specs.Octets.{octets, times}
use Rattle.crc.proofs.CrcLaws.{bit_steps-xor, bit_steps-add, bit_steps-shift, bit_steps-split, bit_steps-down, wider, carried}
use Rattle.crc.proofs.ProductLaws.{times_xor, product_steps}
use Rattle.crc_folds.specs.Waits.{Taps, tap, both, spread, far, near, folded}

-- how far the taps reach beyond k
abbrev pub beyond : Taps → ℕ → ℕ
beyond (tap j) k = j - k
beyond (both s t) k = beyond s k + beyond t k

-- the multiple without its highest power
abbrev lower : Taps → ℕ → ℕ → ℕ
lower (tap j) k z = bit_steps (k - j) z
lower (both s t) k z = bit_xor (lower s k z) (lower t k z)

-- one register tells it of all
pub record Multiple (t : Taps) (k : ℕ) : Type 0 where
  pub within : beyond t k ≡ 0
  pub at_one : bit_steps (64 + k) 0x8000_0000 ≡ lower t k 0x8000_0000

-- x^300 + x^155 + x^117 + x^89 + 1
pub far_multiple : Multiple far 236
unfolding far bit_steps bit_step
far_multiple = record { within = refl; at_one = refl }

-- x^120 + x^56 + x^40 + x^33 + x^15 + x^9 + x^8 + x + 1
pub near_multiple : Multiple near 56
unfolding near bit_steps bit_step
near_multiple = record { within = refl; at_one = refl }

summed : (t : Taps) (k z : ℕ) → z < 2 ^ 32 → times 32 z (lower t k 0x8000_0000) ≡ lower t k z
summed (tap j) k z h = product_steps (k - j) z h
summed (both s t) k z h =
    times_xor 32 z (lower s k 0x8000_0000) (lower t k 0x8000_0000) h ∙ ap₂ bit_xor (summed s k z h) (summed t k z h)

shift : (c j n x : ℕ) → n ≡ c + j → bit_steps n (x * 2 ^ c) ≡ bit_steps j x
shift c j n x e = ap (λ (k : ℕ). bit_steps k (x * 2 ^ c)) e ∙ bit_steps-add c j (x * 2 ^ c) ∙ ap (bit_steps j) (bit_steps-shift c x)

spread_steps : (t : Taps) (k m x : ℕ) → beyond t k ≡ 0 → bit_steps (m + k) (spread t x) ≡ lower t k (bit_steps m x)
unfolding spread
spread_steps (tap j) k m x e = shift j (m + (k - j)) (m + k) x (omega arith) ∙ bit_steps-add m (k - j) x
spread_steps (both s t) k m x e =
    bit_steps-xor (m + k) (spread s x) (spread t x)
    ∙ ap₂ bit_xor (spread_steps s k m x (omega arith)) (spread_steps t k m x (omega arith))

pub spread_lt : (t : Taps) (k x : ℕ) → x < 2 ^ 64 → beyond t k ≡ 0 → spread t x < 2 ^ (64 + k)
unfolding spread
spread_lt (tap j) k x h e = wider (64 + j) (64 + k) (shl_lt 64 j h) (omega arith)
spread_lt (both s t) k x h e =
    xor_lt (64 + k) (spread s x) (spread t x) (spread_lt s k x h (omega arith)) (spread_lt t k x h (omega arith))

eight : (n : ℕ) → octets 8 n ≡ bit_xor (n / 2 ^ 64) (octets 8 (n % 2 ^ 64))
unfolding octets
eight n = bit_steps-split 64 n ∙ xor_comm (bit_steps 64 (n % 2 ^ 64)) (n / 2 ^ 64)

module _ {t : Taps} {k : ℕ} (d : Multiple t k) where
  -- 32 steps before bring the word within 32 digits
  spread_octets : (m x : ℕ) → x < 2 ^ 64 → k + 32 ≤ 8 * m → octets m (spread t x) ≡ octets m (octets 8 x)
  unfolding octets
  spread_octets m x h l =
      ap (λ (i : ℕ). bit_steps i (spread t x)) p ∙ spread_steps t k n x d.within
      ∙ sym (summed t k z small) ∙ ap (times 32 z) (sym d.at_one) ∙ product_steps (64 + k) z small
      ∙ sym (bit_steps-add n (64 + k) x) ∙ ap (λ (i : ℕ). bit_steps i x) q ∙ bit_steps-add 64 (8 * m) x
    where
      n : ℕ
      n = 8 * m - k

      z : ℕ
      z = bit_steps n x

      p : 8 * m ≡ n + k
      p = omega arith

      q : n + (64 + k) ≡ 64 + 8 * m
      q = omega arith

      small : z < 2 ^ 32
      small = bit_steps-down n 32 x (omega arith) (wider 64 (n + 32) h (omega arith))

  -- what is folded does to enough bytes what the steps of its lowest word do
  pub fold_same : (n : ℕ) (bs : List ℕ) → k + 32 ≤ 8 * length bs → bytes_from (folded t n) bs ≡ bytes_from (octets 8 n) bs
  unfolding folded
  fold_same n bs l =
      carried (n / 2 ^ 64) (spread t x) bs
      ∙ ap (bit_xor (bytes_from (n / 2 ^ 64) bs)) (spread_octets (length bs) x (mod-lt n (pow_pos 64)) l)
      ∙ sym (ap (λ (y : ℕ). bytes_from y bs) (eight n) ∙ carried (n / 2 ^ 64) (octets 8 x) bs)
    where
      x : ℕ
      x = n % 2 ^ 64
