-- The first four bytes alone, where the size is four to seven above whole words, so that less than four are left behind the words.
use Rattle.std.proofs.Common.{◌≡◌, ap, ◌∙◌, List, ℕ, ◌+◌, ◌-◌, ◌*◌, ◌/◌, ◌%◌, ◌^◌, ◌≤◌, ◌<◌, arith, length, drop, take, length-drop, shl_exact, bit_xor}
use Rattle.std.specs.Int.Bits.{xor_zero_l}
use Rattle.std.proofs.lemmas.Nat.{xor_lt}
use Rattle.crc.specs.Crc.{bit_steps, bytes_from}
use Rattle.crc.specs.Octets.{octets, word}
use Rattle.crc.proofs.CrcLaws.{bit_steps-add, bit_steps-shift, octets_lt}
use Rattle.crc_nibbles.specs.Rows.{Rows, four_halves}
use Rattle.crc_nibbles.specs.RowsLaws.{four_halves_lem}
use Rattle.crc_folds.specs.Waits.{far, folded, Fits, Waits}
use Rattle.crc_folds.proofs.Walk.{part}
use Rattle.crc_folds.proofs.Multiple.{far_multiple, fold_same}
use Rattle.crc_folds.proofs.Waits.{fits_small, fits_folded, waits_start}

pub wide : (c w : ℕ) → c < 2 ^ 32 → w < 2 ^ 32 → bit_xor c w < 2 ^ 64
wide c w h g = omega (arith, xor_lt 32 c w h g)

-- as the upper half of a word
half : (x : ℕ) → octets 8 (x * 2 ^ 32) ≡ octets 4 x
unfolding octets
half x = bit_steps-add 32 32 (x * 2 ^ 32) ∙ ap (bit_steps 32) (bit_steps-shift 32 x)

module _ (c : ℕ) {s : List ℕ} {n i : ℕ} (odd : i ≡ length s / 4 % 2 * 4) where
  pub begun_none : i < 4 → n ≡ c → c < 2 ^ 32 → Waits (bytes_from c s) s n i
  begun_none l e h =
      let z : i ≡ 0 = omega arith in
      rw (e, z) (waits_start c s 0 (omega arith) (fits_small c (length s - 0) h))

  begun_after : {w : ℕ} → 4 ≤ i → w ≡ word (take 4 s) → bytes_from n (drop 4 s) ≡ bytes_from (octets 4 (bit_xor c w)) (drop 4 s)
      → Fits n (length s - 4)
      → Waits (bytes_from c s) s n i
  begun_after l e p f =
      let z : i ≡ 4 = omega arith in
      rw z
      (record {
        some = omega arith;
        left = p ∙ ap (λ (x : ℕ). bytes_from (octets 4 (bit_xor c x)) (drop 4 s)) e ∙ part 4 s 0 c (omega arith);
        fits = f;
      })

  pub begun_four : (t : List ℕ) {w v : ℕ} → Rows t → 128 ≤ length t → c < 2 ^ 32 → w < 2 ^ 32 → 4 ≤ i → w ≡ word (take 4 s)
      → v ≡ four_halves t (bit_xor c w) → n ≡ v → Waits (bytes_from c s) s n i
  begun_four t {w} r k h g l e p q =
      let b : bit_xor c w < 2 ^ 32 = xor_lt 32 c w h g in
      let v : n ≡ octets 4 (bit_xor c w) = q ∙ p ∙ four_halves_lem t (bit_xor c w) r k b in
      begun_after l e (ap (λ (x : ℕ). bytes_from x (drop 4 s)) v) (fits_small n (length s - 4) (rw v (octets_lt 4 (bit_xor c w) b)))

  pub begun_half : {w m : ℕ} → c < 2 ^ 32 → w < 2 ^ 32 → 4 ≤ i → w ≡ word (take 4 s) → 44 ≤ length s → m ≡ 0
      → n ≡ folded far (bit_xor m (bit_xor c w * 2 ^ 32 % 2 ^ 64)) → Waits (bytes_from c s) s n i
  begun_half {w} {m} h g l e k z p =
      begun_after l e
      (ap (λ (x : ℕ). bytes_from x (drop 4 s)) p ∙ fold_same far_multiple y (drop 4 s) (omega (arith, length-drop 4 s))
      ∙ ap (λ (x : ℕ). bytes_from x (drop 4 s)) (ap (octets 8) q ∙ half (bit_xor c w)))
      (rw (p, ← size) (fits_folded far_multiple m (length s + 4) x (fits_small m (length s + 4) (omega arith)) (omega arith) (omega arith)))
    where
      x : ℕ
      x = bit_xor c w * 2 ^ 32 % 2 ^ 64

      y : ℕ
      y = bit_xor m x

      q : y ≡ bit_xor c w * 2 ^ 32
      q = ap (λ (j : ℕ). bit_xor j x) z ∙ xor_zero_l x ∙ shl_exact 32 32 64 (xor_lt 32 c w h g) (omega arith)

      size : length s + 4 - 8 ≡ length s - 4
      size = omega arith
