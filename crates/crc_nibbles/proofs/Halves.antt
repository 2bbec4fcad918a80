-- A register by half bytes, as the code looks them up.
use Rattle.std.proofs.Common.{◌≡◌, refl, sym, ap, ap₂, ◌∙◌, List, ◌∷◌, ℕ, ◌+◌, ◌*◌, ◌/◌, ◌%◌, ◌≤◌, ◌<◌, lt-ltb, le-ltb, add-one, arith, length, get_or, drop, drop_of_length-le, drop-cons, bit_xor}
use Rattle.crc_nibbles.specs.Rows.{halves, by_halves, four_halves, byte_by_byte, bytes_halves}

pub halves_are : (t : List ℕ) (k x : ℕ) → bit_xor (get_or t (k * 32 + 16 + x % 16) 0) (get_or t (k * 32 + x / 16 % 16) 0) ≡ halves t k x
unfolding halves
halves_are t k x = refl

module _ (t : List ℕ) (x : ℕ) where
  pub four_none : length t < 128 → 0 ≡ four_halves t x
  unfolding four_halves
  four_none h = simp (lt-ltb (length t) 128 h)

  pub four_are : {a b c d : ℕ} → 128 ≤ length t → a ≡ halves t 3 x → b ≡ halves t 2 (x / 256) → c ≡ halves t 1 (x / 65536)
      → d ≡ halves t 0 (x / 16777216)
      → bit_xor (bit_xor a b) (bit_xor c d) ≡ four_halves t x
  unfolding four_halves by_halves
  four_are l e f g h = simp (le-ltb (length t) 128 l) (ap₂ bit_xor (ap₂ bit_xor e f) (ap₂ bit_xor g h))

-- ---- a byte a turn

module _ (t : List ℕ) (c : ℕ) (s : List ℕ) where
  pub bytes_none : length t < 32 → c ≡ bytes_halves t c s
  unfolding bytes_halves
  bytes_none h = simp (lt-ltb (length t) 32 h)

  -- the bytes that are left, from the register as it is, give what all of them gave
  pub record Byted (r i : ℕ) : Type 0 where
    pub some : i ≤ length s
    pub left : byte_by_byte t r (drop i s) ≡ byte_by_byte t c s

  pub byted_turn : {r i v : ℕ} → Byted r i → i < length s → v ≡ halves t 0 (bit_xor r (get_or s i 0))
      → Byted (bit_xor v (bit_xor r (get_or s i 0) / 256)) (i + 1)
  unfolding byte_by_byte
  byted_turn {r} {i} {v} g l e =
      record {
        some = omega arith;
        left =
            ap (λ (y : ℕ). byte_by_byte t (bit_xor y (bit_xor r (get_or s i 0) / 256)) (drop (i + 1) s)) e
            ∙ sym (ap (byte_by_byte t r) front)
            ∙ g.left;
      }
    where
      front : drop i s ≡ get_or s i 0 ∷ drop (i + 1) s
      front = rw (add-one, drop-cons s i 0)

  pub byted_done : {r i : ℕ} → Byted r i → length s ≤ i → 32 ≤ length t → r ≡ bytes_halves t c s
  unfolding byte_by_byte bytes_halves
  byted_done {r} {i} g h l =
      simp (le-ltb (length t) 32 l) (sym (ap (byte_by_byte t r) (drop_of_length-le s {i = i} h)) ∙ g.left)
