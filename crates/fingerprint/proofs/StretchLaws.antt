-- A FINGERPRINT at the end leaves no room for a short change: the core of demand 3, of any two lists of bytes that end in a right one.
use Rattle.std.specs.Prelude.{List, [], ◌∷◌, ◌++◌, ℕ, ◌+◌, ◌-◌, ◌*◌, ◌/◌, ◌%◌, ◌≤◌, ◌<◌, ◌⊎◌, ◌≡◌, get_or, take, drop}
use Rattle.std.proofs.Common.{inl, inr, sym, ◌∙◌, arith, length-drop, take-append-drop, ext_get_or, get_or-take, get_or-drop}
use Rattle.std.proofs.Math.Path.{ap, ap₂}
use Rattle.std.proofs.Math.Decide.{dec_le, dec_lt}
use Rattle.std.proofs.Math.ListN.{length, length-take, get_or-eq_default}
use Rattle.std.specs.Int.Bits.{bit_xor}
use Rattle.base.specs.BytesLaws.{take-bytes, drop-bytes}
use Rattle.base.specs.Bytes.{Bytes}
use Rattle.base.specs.XorLaws.{xor_cancel}
use Rattle.big_endian.specs.Numbers.{be16, four, with_length}
use Rattle.big_endian.specs.NumbersLaws.{four_once}
use Rattle.crc.specs.Crc.{crc32_of}
use Rattle.crc.proofs.BurstAtLaws.{burst_at}
use Rattle.fingerprint.specs.Fingerprint.{fingerprint_at}

-- d ends in a right FINGERPRINT that starts at p, and its length field says so
pub record Sealed (d : List ℕ) (p : ℕ) : Type 0 where
  pub low : 20 ≤ p
  pub long : length d ≡ p + 8
  pub field : be16 d 2 ≡ p - 20 + 8
  pub print : drop p d ≡ 0x80 ∷ 0x28 ∷ 0 ∷ 4 ∷ four (fingerprint_at d p)

-- a length field with its own number in it is unchanged
pub same_length : (m : List ℕ) → Bytes m → 4 ≤ length m → with_length m (be16 m 2) ≡ m
unfolding with_length be16
same_length [] h l = absurd (omega arith)
same_length (a ∷ []) h l = absurd (omega arith)
same_length (a ∷ b ∷ []) h l = absurd (omega arith)
same_length (a ∷ b ∷ c ∷ []) h l = absurd (omega arith)
same_length (a ∷ b ∷ c ∷ e ∷ r) h l =
    let k : e < 256 = h.1.1.1.0 in
    let p : (c * 256 + e) / 256 ≡ c = omega arith in
    let q : (c * 256 + e) % 256 ≡ e = omega arith in
    rw (p, q)

module _ (d : List ℕ) (p : ℕ) (h : Bytes d) (s : Sealed d p) where
  field_front : be16 (take p d) 2 ≡ p - 20 + 8
  unfolding be16
  field_front =
      ap₂ (λ (x y : ℕ). x * 256 + y) (get_or-take p d 2 0 (omega (arith, s.low))) (get_or-take p d 3 0 (omega (arith, s.low))) ∙ s.field

  -- so the sum is that of the bytes before it as they stand
  print_is : fingerprint_at d p ≡ bit_xor (crc32_of (take p d)) 0x5354554E
  unfolding fingerprint_at
  print_is =
      let l : 4 ≤ length (take p d) = simp length-take (omega (arith, s.low, s.long)) in
      ap (λ (m : List ℕ). bit_xor (crc32_of m) 0x5354554E)
      (ap (with_length (take p d)) (sym field_front) ∙ same_length (take p d) (take-bytes p d h) l)

-- lists that agree before p and from p on are one
joined : (d e : List ℕ) (p : ℕ) → take p d ≡ take p e → drop p d ≡ drop p e → d ≡ e
joined d e p f b = sym (take-append-drop p d) ∙ ap₂ {C = List ℕ} (λ u v. u ++ v) f b ∙ take-append-drop p e

module _ (d e : List ℕ) (p k : ℕ) (h : Bytes d) (i : Bytes e) (s : Sealed d p) (t : Sealed e p)
    (same : (j : ℕ) → (j < k) ⊎ (k + 4 ≤ j) → get_or d j 0 ≡ get_or e j 0) where
  fronts_at : (j : ℕ) → j < p → (j < k) ⊎ (k + 4 ≤ j) → get_or (take p d) j 0 ≡ get_or (take p e) j 0
  fronts_at j l w = get_or-take p d j 0 l ∙ same j w ∙ sym (get_or-take p e j 0 l)

  place : (m : List ℕ) (j : ℕ) → get_or (drop 4 (drop p m)) j 0 ≡ get_or m (p + (4 + j)) 0
  place m j = get_or-drop 4 (drop p m) j 0 ∙ get_or-drop p m (4 + j) 0

  front_size : (m : List ℕ) → length m ≡ p + 8 → length (take p m) ≡ p
  front_size m z = simp length-take (omega arith)

  -- equal fronts have equal sums, and so equal ends
  from_fronts : take p d ≡ take p e → d ≡ e
  from_fronts f =
      let q : fingerprint_at d p ≡ fingerprint_at e p =
      print_is d p h s ∙ ap (λ (m : List ℕ). bit_xor (crc32_of m) 0x5354554E) f ∙ sym (print_is e p i t)
      in
      joined d e p f (s.print ∙ ap (λ (x : ℕ). 0x80 ∷ 0x28 ∷ 0 ∷ 4 ∷ four x) q ∙ sym t.print)

  -- the window lies before the value: equal values are equal sums, and the burst law gives the fronts
  before : k ≤ p → d ≡ e
  before l = from_fronts (burst_at (take p d) (take p e) k sizes outside (window d h) (window e i) sums)
    where
      sizes : length (take p d) ≡ length (take p e)
      sizes = front_size d s.long ∙ sym (front_size e t.long)

      outside : (j : ℕ) → (j < k) ⊎ (k + 4 ≤ j) → get_or (take p d) j 0 ≡ get_or (take p e) j 0
      outside j w = in_or_out (dec_lt j p)
        where
          in_or_out : Dec (j < p) → get_or (take p d) j 0 ≡ get_or (take p e) j 0
          in_or_out (yes m) = fronts_at j m w
          in_or_out (no m) =
              get_or-eq_default (take p d) 0 {n = j} (omega (arith, front_size d s.long))
              ∙ sym (get_or-eq_default (take p e) 0 {n = j} (omega (arith, front_size e t.long)))

      window : (m : List ℕ) → Bytes m → Bytes (take 4 (drop k (take p m)))
      window m b = take-bytes 4 (drop k (take p m)) (drop-bytes k (take p m) (take-bytes p m b))

      ends : drop 4 (drop p d) ≡ drop 4 (drop p e)
      ends =
          ext_get_or 0 (drop 4 (drop p d)) (drop 4 (drop p e)) (simp length-drop (ap (λ (n : ℕ). n - p - 4) (s.long ∙ sym t.long)))
          (λ j m. place d j ∙ same (p + (4 + j)) (inr (omega arith)) ∙ sym (place e j))

      sums : crc32_of (take p d) ≡ crc32_of (take p e)
      sums =
          let v : four (fingerprint_at d p) ≡ four (fingerprint_at e p) = sym (ap (drop 4) s.print) ∙ ends ∙ ap (drop 4) t.print in
          xor_cancel (crc32_of (take p d)) (crc32_of (take p e)) 0x5354554E
          (sym (print_is d p h s) ∙ four_once (fingerprint_at d p) (fingerprint_at e p) v ∙ print_is e p i t)

  behind : p < k → d ≡ e
  behind l =
      from_fronts
      (ext_get_or 0 (take p d) (take p e) (front_size d s.long ∙ sym (front_size e t.long))
      (λ j m. fronts_at j (omega (arith, front_size d s.long)) (inl (omega (arith, front_size d s.long)))))

  pub stretch_sealed : d ≡ e
  stretch_sealed = go (dec_le k p)
    where
      go : Dec (k ≤ p) → d ≡ e
      go (yes l) = before l
      go (no l) = behind (omega arith)
