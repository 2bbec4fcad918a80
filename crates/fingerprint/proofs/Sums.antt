-- The sum in three parts, and the places where there is none.
use Rattle.std.proofs.Common.{ℕ, ◌+◌, ◌-◌, ◌/◌, ◌%◌, ◌≤◌, ◌<◌, List, [], ◌∷◌, ◌++◌, ◌≡◌, sym, ap, ◌∙◌, arith, lt-ltb, le-ltb, length, get_or, take, drop, take-add, w16}
use Rattle.std.specs.Int.{to_be_bytes}
use Rattle.std.specs.Int.Bits.{bit_xor}
use Rattle.big_endian.specs.Numbers.{be16, two, with_length}
use Rattle.big_endian.specs.NumbersLaws.{four_at}
use Rattle.crc.specs.Crc.{bytes_from, finished, crc32_of}
use Rattle.crc.proofs.CrcLaws.{bytes_from-append}
use Rattle.fingerprint.specs.Fingerprint.{fingerprint_at, printed}
use Rattle.fingerprint.specs.FingerprintLaws.{owes_sum}
use Rattle.fingerprint.specs.RegisterLaws.{parts}

-- a length as its two bytes
two_bytes : (n : ℕ) → n < 65536 → to_be_bytes w16 n ≡ two n
two_bytes n h = let e : n / 256 % 256 ≡ n / 256 = omega arith in rw e

pub summed : (d : List ℕ) (p : ℕ) {a b c r : ℕ} {w : List ℕ} → 20 ≤ p → p ≤ length d → p - 20 + 8 ≤ 65535
    → w ≡ to_be_bytes w16 (p - 20 + 8) → a ≡ bytes_from 0xFFFF_FFFF (take 2 d)
    → b ≡ bytes_from a w → c ≡ bytes_from b (take (p - 4) (drop 4 d)) → r ≡ finished c → bit_xor r 0x5354554E ≡ fingerprint_at d p
unfolding fingerprint_at crc32_of
summed d p {a} {b} {c} {r} {w} h l k o e t g i =
    let n : ℕ = p - 20 + 8 in
    let s : List ℕ = take (p - 4) (drop 4 d) in
    let f : b ≡ bytes_from a (two n) = t ∙ ap (bytes_from a) (o ∙ two_bytes n (omega arith)) in
    let q : bytes_from 0xFFFF_FFFF (take 2 d ++ two n ++ s) ≡ c =
    bytes_from-append 0xFFFF_FFFF (take 2 d ++ two n) s
    ∙ ap (λ (x : ℕ). bytes_from x s) (bytes_from-append 0xFFFF_FFFF (take 2 d) (two n) ∙ ap (λ (x : ℕ). bytes_from x (two n)) (sym e) ∙ sym f)
    ∙ sym g
    in
    ap (λ (x : ℕ). bit_xor x 0x5354554E) (i ∙ ap finished (sym q ∙ ap (bytes_from 0xFFFF_FFFF) (sym (parts d p n (omega arith) l))))

-- a length that stands there already changes nothing
pub as_it_stands : (d : List ℕ) → ((i : ℕ) → get_or d i 0 < 256) → (p : ℕ) {u r : ℕ} → 20 ≤ p → p ≤ length d
    → u ≡ be16 d 2 → u ≡ p - 20 + 8 → r ≡ crc32_of (take (p - 0) d) → bit_xor r 0x5354554E ≡ fingerprint_at d p
unfolding fingerprint_at be16
as_it_stands d bs p {u} {r} h l e f g =
    let n : ℕ = p - 20 + 8 in
    let a : ℕ = get_or d 2 0 in
    let b : ℕ = get_or d 3 0 in
    let high : n / 256 ≡ a = omega (arith, bs 3) in
    let low : n % 256 ≡ b = omega (arith, bs 3) in
    let at : d ≡ get_or d 0 0 ∷ get_or d 1 0 ∷ a ∷ b ∷ drop 4 d = four_at d 0 (omega arith) in
    let start : take 4 d ≡ take 2 d ++ two n =
    rw (high, low) (ap (take 4) at ∙ sym (ap (λ (x : List ℕ). take 2 x ++ (a ∷ b ∷ [])) at))
    in
    let q : p - 0 ≡ 4 + (p - 4) = omega arith in
    let same : take (p - 0) d ≡ with_length (take p d) n =
    ap (λ (k : ℕ). take k d) q ∙ take-add 4 (p - 4) d ∙ ap (λ (x : List ℕ). x ++ take (p - 4) (drop 4 d)) start ∙ sym (parts d p n (omega arith) l)
    in
    ap (λ (x : ℕ). bit_xor x 0x5354554E) (g ∙ ap crc32_of same)

module _ (d : List ℕ) (p : ℕ) where
  pub in_header : p < 20 → 0 ≡ printed d p
  unfolding printed
  in_header h = simp (lt-ltb p 20 h)

  module _ (h : 20 ≤ p) where
    pub behind : length d < p → 0 ≡ printed d p
    unfolding printed
    behind l = simp (le-ltb p 20 h, lt-ltb (length d) p l)

    module _ (l : p ≤ length d) where
      pub too_far : 65535 < p - 20 + 8 → 0 ≡ printed d p
      unfolding printed
      too_far k = simp (le-ltb p 20 h, le-ltb (length d) p l, lt-ltb 65535 (p - 20 + 8) k)

      pub there : {r : ℕ} → p - 20 + 8 ≤ 65535 → r ≡ fingerprint_at d p → r ≡ printed d p
      there k e = e ∙ sym (owes_sum d p h l k)
