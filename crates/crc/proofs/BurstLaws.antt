-- A short burst cannot hide: two lists of equal length that are the same outside four neighbouring places, and have the same CRC,
-- are the same list. Only what stands in the four places need be bytes.
use Rattle.std.specs.Prelude.{◌≡◌, refl, List, ◌++◌, ℕ, ◌^◌, ◌≤◌, ◌<◌, length}
use Rattle.std.proofs.Common.{sym, ap, ◌∙◌, arith}
use Rattle.std.specs.Int.Bits.{bit_xor, xor_zero_r, xor_self}
use Rattle.std.proofs.lemmas.Nat.{xor_lt}
use Rattle.base.specs.Bytes.{Bytes}
use Rattle.base.specs.XorLaws.{xor_cancel, xor_eq}
use Rattle.crc.specs.Crc.{bytes_from, crc32_of}
use Rattle.crc.specs.Octets.{octets, word}
use Rattle.crc.proofs.CrcLaws.{octets_lt, octets_nought, bytes_from-append, difference, word_lt, word_same}

-- registers of 32 digits that the same bytes bring to the same were the same
same_before : (s t : ℕ) (bs : List ℕ) → bit_xor s t < 2 ^ 32 → bytes_from s bs ≡ bytes_from t bs → s ≡ t
same_before s t bs h p = xor_eq s t (octets_nought (length bs) d h q)
  where
    d : ℕ
    d = bit_xor s t

    q : octets (length bs) d ≡ 0
    q =
        ap (octets (length bs)) (sym (xor_zero_r d) ∙ ap (bit_xor d) (sym (xor_self (word bs)))) ∙ sym (difference s t bs bs refl)
        ∙ ap (λ (x : ℕ). bit_xor x (bytes_from t bs)) p
        ∙ xor_self (bytes_from t bs)

-- up to four bytes that bring a register to the same are the same
window : (s : ℕ) (v w post : List ℕ) → Bytes v → Bytes w → length v ≡ length w → length v ≤ 4
    → bytes_from (bytes_from s v) post ≡ bytes_from (bytes_from s w) post → v ≡ w
window s v w post hv hw e l p =
    word_same v w hv hw e (xor_eq (word v) (word w) (octets_nought (length v) d d_lt (sym after ∙ xor_zero (same_before x y post xy_lt p))))
  where
    d : ℕ
    d = bit_xor (word v) (word w)

    x : ℕ
    x = bytes_from s v

    y : ℕ
    y = bytes_from s w

    d_lt : d < 2 ^ 32
    d_lt = xor_lt 32 (word v) (word w) (word_lt 4 v hv l) (word_lt 4 w hw (omega arith))

    after : bit_xor x y ≡ octets (length v) d
    after = difference s s v w e ∙ ap (λ (z : ℕ). octets (length v) (bit_xor z d)) (xor_self s)

    xy_lt : bit_xor x y < 2 ^ 32
    xy_lt = rw after (octets_lt (length v) d d_lt)

    xor_zero : x ≡ y → bit_xor x y ≡ 0
    xor_zero q = ap (λ (z : ℕ). bit_xor z y) q ∙ xor_self y

-- THE BURST LAW, over lists
pub burst : (pre v w post : List ℕ) → Bytes v → Bytes w → length v ≡ length w → length v ≤ 4
    → crc32_of (pre ++ v ++ post) ≡ crc32_of (pre ++ w ++ post) → v ≡ w
unfolding crc32_of
burst pre v w post hv hw e l p =
    window (bytes_from 0xFFFF_FFFF pre) v w post hv hw e l
    (sym (parts v) ∙ xor_cancel (bytes_from 0xFFFF_FFFF (pre ++ v ++ post)) (bytes_from 0xFFFF_FFFF (pre ++ w ++ post)) 0xFFFF_FFFF p ∙ parts w)
  where
    parts : (u : List ℕ) → bytes_from 0xFFFF_FFFF (pre ++ u ++ post) ≡ bytes_from (bytes_from (bytes_from 0xFFFF_FFFF pre) u) post
    parts u = bytes_from-append 0xFFFF_FFFF (pre ++ u) post ∙ ap (λ (t : ℕ). bytes_from t post) (bytes_from-append 0xFFFF_FFFF pre u)
