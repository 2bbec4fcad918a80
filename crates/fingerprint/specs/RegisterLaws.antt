-- The register is carried from place to place, and another length is put in by one product.
use Rattle.std.specs.Prelude.{ℕ, ◌+◌, ◌-◌, ◌*◌, ◌/◌, ◌%◌, ◌^◌, ◌≤◌, ◌<◌, List, ◌++◌, ◌≡◌, refl, length, drop}
use Rattle.std.proofs.Math.Path.{sym, ap, ap₂}
use Rattle.std.proofs.Common.{◌∙◌, append_assoc, arith, length-take, length-drop, take-take, take-add, drop-drop}
use Rattle.std.proofs.Math.ListN.{take}
use Rattle.std.specs.Int.Bits.{bit_xor, xor_zero_l}
use Rattle.std.proofs.lemmas.Nat.{xor_lt}
use Rattle.base.specs.LaidLaws.{laid_is}
use Rattle.base.specs.Laid.{laid}
use Rattle.base.specs.ListLaws.{drop-take}
use Rattle.big_endian.specs.Numbers.{two, with_length}
use Rattle.crc.specs.Crc.{bytes_from, finished, crc32_of}
use Rattle.crc.specs.Octets.{octets, word, times}
use Rattle.crc.proofs.CrcLaws.{bit_steps-shift, octets_add, octets_xor, bytes_from-append, at_once, patched, low_byte}
use Rattle.crc.proofs.ProductLaws.{product}
use Rattle.fingerprint.specs.Fingerprint.{fingerprint_at}
use Rattle.fingerprint.specs.Register.{register, field}

-- the front with another length, part by part
pub parts : (d : List ℕ) (p n : ℕ) → 4 ≤ p → p ≤ length d → with_length (take p d) n ≡ take 2 d ++ two n ++ take (p - 4) (drop 4 d)
unfolding with_length laid
parts d p n h l =
    laid_is (take p d) 2 (two n) (simp length-take (omega arith))
    ∙ ap₂ {C = List ℕ} (λ u v. u ++ two n ++ v) (take-take 2 p d (omega arith)) (drop-take 4 p d)

-- on from u to p
pub register_on : (d : List ℕ) (u p n : ℕ) → 4 ≤ u → u ≤ p → p ≤ length d → bytes_from (register d u n) (take (p - u) (drop u d)) ≡ register d p n
unfolding register
register_on d u p n h k l =
    sym (bytes_from-append 0xFFFF_FFFF (with_length (take u d) n) s) ∙ ap (bytes_from 0xFFFF_FFFF) (sym whole)
  where
    s : List ℕ
    s = take (p - u) (drop u d)

    sizes : p - 4 ≡ u - 4 + (p - u)
    sizes = omega arith

    places : 4 + (u - 4) ≡ u
    places = omega arith

    more : take (p - 4) (drop 4 d) ≡ take (u - 4) (drop 4 d) ++ s
    more =
        ap (λ (m : ℕ). take m (drop 4 d)) sizes ∙ take-add (u - 4) (p - u) (drop 4 d)
        ∙ ap (λ (r : List ℕ). take (u - 4) (drop 4 d) ++ take (p - u) r) (drop-drop (u - 4) 4 d ∙ ap (λ (m : ℕ). drop m d) places)

    whole : with_length (take p d) n ≡ with_length (take u d) n ++ s
    whole =
        parts d p n (omega arith) l ∙ ap (λ (r : List ℕ). take 2 d ++ two n ++ r) more
        ∙ sym (append_assoc (take 2 d ++ two n) (take (u - 4) (drop 4 d)) s)
        ∙ ap (λ (r : List ℕ). r ++ s) (sym (parts d u n h (omega arith)))

-- the two bytes of a length as one number
word_two : (n : ℕ) → n < 65536 → word (two n) ≡ n % 256 * 256 + n / 256
unfolding word
word_two n h =
    let z : bit_xor (n % 256) (0 * 2 ^ 8) ≡ n % 256 = low_byte (n % 256) 0 (omega arith) ∙ omega arith in
    ap (λ (x : ℕ). bit_xor (n / 256) (x * 2 ^ 8)) z ∙ low_byte (n / 256) (n % 256) (omega arith)

two_on : (n : ℕ) → bytes_from 0 (two n) ≡ octets 2 (word (two n))
two_on n = at_once 0 (two n) ∙ ap (octets 2) (xor_zero_l (word (two n)))

field_on : (n : ℕ) → n < 65536 → octets 2 (field n) ≡ word (two n)
unfolding field octets
field_on n h = bit_steps-shift 16 (n % 256 * 256 + n / 256) ∙ sym (word_two n h)

pub field_lt : (n : ℕ) → n < 65536 → field n < 2 ^ 32
unfolding field
field_lt n h = omega arith

module _ (d : List ℕ) (p m n : ℕ) (h : 4 ≤ p) (l : p ≤ length d) (i : m < 65536) (j : n < 65536) where
  abbrev change : ℕ
  change = bit_xor (field n) (field m)

  -- what the two bytes change, two bytes behind them
  two_change : octets 4 change ≡ bit_xor (bytes_from 0 (two n)) (bytes_from 0 (two m))
  two_change =
      octets_add 2 2 change
      ∙ ap (octets 2) (octets_xor 2 (field n) (field m) ∙ ap₂ bit_xor (field_on n j) (field_on m i))
      ∙ octets_xor 2 (word (two n)) (word (two m))
      ∙ sym (ap₂ bit_xor (two_on n) (two_on m))

  -- n in the place of m
  pub register_other : bit_xor (register d p m) (times 32 change (octets p 0x8000_0000)) ≡ register d p n
  unfolding register
  register_other =
      ap (bit_xor (bytes_from 0xFFFF_FFFF (with_length (take p d) m)))
      (product p change (xor_lt 32 (field n) (field m) (field_lt n j) (field_lt m i)) ∙ ap (λ (k : ℕ). octets k change) sizes
      ∙ octets_add 4 (p - 4) change
      ∙ ap₂ octets (sym long) two_change)
      ∙ ap (λ (x : List ℕ). bit_xor (bytes_from 0xFFFF_FFFF x) (octets (length post) (bit_xor (bytes_from 0 (two n)) (bytes_from 0 (two m))))) (parts d p m h l)
      ∙ sym (patched 0xFFFF_FFFF (take 2 d) (two n) (two m) post refl)
      ∙ ap (bytes_from 0xFFFF_FFFF) (sym (parts d p n h l))
    where
      post : List ℕ
      post = take (p - 4) (drop 4 d)

      sizes : p ≡ 4 + (p - 4)
      sizes = omega arith

      long : length post ≡ p - 4
      long = simp (length-take, length-drop) (omega arith)

-- the FINGERPRINT of the register with its length
pub print_of : (d : List ℕ) (p : ℕ) → bit_xor (finished (register d p (p - 20 + 8))) 0x5354554E ≡ fingerprint_at d p
unfolding fingerprint_at crc32_of register
print_of d p = refl
