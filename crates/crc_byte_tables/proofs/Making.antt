-- A register by bytes, as the code looks them up, and the rows of bytes, made one entry after the other.
use Rattle.std.proofs.Common.{◌≡◌, sym, ap, ap₂, ◌∙◌, List, [], ◌∷◌, ◌++◌, ℕ, ◌+◌, ◌-◌, ◌*◌, ◌/◌, ◌%◌, ◌≤◌, ◌<◌, lt-ltb, le-ltb, add-one, arith, length, get_or, take, set, length-set, take-suc-set, get_or-take, bit_xor, ext_get_or, slice_index_or, drop, length-append, length-drop, take_at, w32}
use Rattle.std.specs.Int.{to_le_bytes}
use Rattle.std.specs.Int.Bits.{xor_zero_r}
use Rattle.crc.specs.Crc.{bit_steps, byte_step, bytes_from}
use Rattle.crc.specs.Octets.{octets}
use Rattle.crc.proofs.CrcLaws.{bit_steps-split, octets_add}
use Rattle.crc_nibbles.specs.Rows.{four_halves}
use Rattle.crc_byte_tables.specs.Tables.{byte_rows, by_bytes, four_by, eight_by}
use Rattle.crc_byte_tables.proofs.TablesLaws.{four_few, length-byte_rows, byte_entry}

module _ (t : List ℕ) (x : ℕ) where
  pub bytes_are : (r : ℕ) {v : List ℕ} {a b c d : ℕ} → v ≡ to_le_bytes w32 x → a ≡ get_or t (r * 256 + 768 + get_or v 0 0) 0
      → b ≡ get_or t (r * 256 + 512 + get_or v 1 0) 0 → c ≡ get_or t (r * 256 + 256 + get_or v 2 0) 0 → d ≡ get_or t (r * 256 + get_or v 3 0) 0
      → bit_xor (bit_xor a b) (bit_xor c d) ≡ by_bytes t r x
  unfolding by_bytes
  bytes_are r {v} q e f g h =
      ap₂ bit_xor (ap₂ bit_xor (at 768 0 e) (at 512 1 f)) (ap₂ bit_xor (at 256 2 g) (h ∙ ap (λ (w : List ℕ). get_or t (r * 256 + get_or w 3 0) 0) q))
    where
      at : (m k : ℕ) {y : ℕ} → y ≡ get_or t (r * 256 + m + get_or v k 0) 0 → y ≡ get_or t (r * 256 + m + get_or (to_le_bytes w32 x) k 0) 0
      at m k e = e ∙ ap (λ (w : List ℕ). get_or t (r * 256 + m + get_or w k 0) 0) q

  -- what a lent table is taken for
  module _ {r : ℕ} where
    pub few : length t < 2048 → r ≡ four_halves t x → r ≡ four_by t x
    few h e = e ∙ four_few t x h

    pub many : 2048 ≤ length t → r ≡ by_bytes t 0 x → r ≡ four_by t x
    unfolding four_by
    many h e = simp (le-ltb (length t) 128 (omega arith), le-ltb (length t) 2048 h) e

    pub eight_many : 2048 ≤ length t → r ≡ by_bytes t 4 x → r ≡ eight_by t x
    unfolding eight_by
    eight_many h e = simp (le-ltb (length t) 2048 h) e

  pub eight_none : length t < 2048 → 0 ≡ eight_by t x
  unfolding eight_by
  eight_none h = simp (lt-ltb (length t) 2048 h)

-- ---- the rows

-- the first i of at most n are made
pub record Making (n : ℕ) (w : List ℕ) (i : ℕ) : Type 0 where
  pub few : i ≤ n
  pub size : length w ≡ 2048
  pub sofar : take i w ≡ byte_rows i

making_next : {n : ℕ} {w : List ℕ} {i x : ℕ} → Making n w i → i < n → n ≤ 2048 → x ≡ octets (i / 256 + 1) (i % 256) → Making n (set w i x) (i + 1)
unfolding byte_rows
making_next {n} {w} {i} {x} g h m q =
    record {
      few = omega arith;
      size = length-set w i x ∙ g.size;
      sofar = rw add-one (take-suc-set w i x (omega (arith, g.size)) ∙ ap₂ (λ (a : List ℕ) (y : ℕ). a ++ (y ∷ [])) g.sofar q);
    }

-- a byte's own steps
own_steps : (b : ℕ) → bytes_from b (0 ∷ []) ≡ octets 1 b
unfolding bytes_from byte_step octets
own_steps b = ap (bit_steps 8) (xor_zero_r b)

-- the first row is those of each byte
pub first_row : (w : List ℕ) → length w ≡ 256 → ((i : ℕ) → i < 256 → slice_index_or w i 0 ≡ bytes_from i (0 ∷ [])) → w ≡ byte_rows 256
first_row w e f =
    ext_get_or 0 w (byte_rows 256) (e ∙ sym (length-byte_rows 256)) same
  where
    same : (i : ℕ) → i < length w → get_or w i 0 ≡ get_or (byte_rows 256) i 0
    same i h =
        let k : i < 256 = omega (arith, e) in
        let u : 1 ≡ i / 256 + 1 = omega arith in
        let v : i ≡ i % 256 = omega arith in
        f i k ∙ own_steps i ∙ ap₂ octets u v ∙ sym (byte_entry 256 i k)

pub more_start : (w : List ℕ) {y : List ℕ} → length w ≡ 2048 → y ≡ byte_rows 256 → Making 2048 (y ++ drop 256 w) 256
more_start w {y} h e =
    let z : length y ≡ 256 = ap length e ∙ length-byte_rows 256 in
    record {
      few = omega arith;
      size = length-append y (drop 256 w) ∙ simp length-drop (omega (arith, h, z));
      sofar = take_at y (drop 256 w) 256 z ∙ e;
    }

-- a list that begins as the rows do
front : (w : List ℕ) (i k : ℕ) → take i w ≡ byte_rows i → k < i → get_or w k 0 ≡ octets (k / 256 + 1) (k % 256)
front w i k e h = sym (get_or-take i w k 0 h) ∙ ap (λ (s : List ℕ). get_or s k 0) e ∙ byte_entry i k h

-- a byte more
stepped : (x : ℕ) {v : ℕ} → v ≡ octets 1 (x % 256) → bit_xor v (x / 256) ≡ octets 1 x
unfolding octets
stepped x e = ap (λ (y : ℕ). bit_xor y (x / 256)) e ∙ sym (bit_steps-split 8 x)

pub more_turn : {w : List ℕ} {i : ℕ} → Making 2048 w i → 256 ≤ i → i < 2048
    → Making 2048 (set w i (bit_xor (get_or w (get_or w (i - 256) 0 % 256) 0) (get_or w (i - 256) 0 / 256))) (i + 1)
more_turn {w} {i} g l h =
    making_next g h (omega arith)
    (stepped x (front w i (x % 256) g.sofar (omega arith) ∙ ap₂ octets low (omega arith))
    ∙ ap (octets 1) (front w i (i - 256) g.sofar (omega arith))
    ∙ sym (octets_add ((i - 256) / 256 + 1) 1 ((i - 256) % 256))
    ∙ ap₂ octets up same)
  where
    x : ℕ
    x = get_or w (i - 256) 0

    low : x % 256 / 256 + 1 ≡ 1
    low = omega arith

    up : (i - 256) / 256 + 1 + 1 ≡ i / 256 + 1
    up = omega arith

    same : (i - 256) % 256 ≡ i % 256
    same = omega arith
