-- Tables that are lent take the steps that they are for.
use Rattle.std.specs.Prelude.{◌≡◌, refl, Bool, true, false, List, [], ◌∷◌, ◌++◌, ℕ, zero, suc, ◌+◌, ◌*◌, ◌/◌, ◌%◌, ◌^◌, ◌≤◌, ◌<◌, eqb, get_or}
use Rattle.std.proofs.Common.{sym, ap₂, ◌∙◌, not-suc-le-zero, arith, length-append, lt-ltb, le-ltb, eqb-true}
use Rattle.std.proofs.Math.Path.{ap}
use Rattle.std.proofs.lemmas.Bool.{eqb-false}
use Rattle.std.proofs.Math.ListN.{length, get_or-append}
use Rattle.std.proofs.Math.Seq.{get_or-append_seam}
use Rattle.std.specs.Int.Bits.{bit_xor}
use Rattle.crc.specs.Octets.{octets}
use Rattle.crc_nibbles.specs.Rows.{Rows, four_halves}
use Rattle.crc_nibbles.specs.RowsLaws.{four_bytes, four_halves_lem}
use Rattle.crc_byte_tables.specs.Tables.{byte_rows, by_bytes, four_by, eight_by, Steps}

pub length-byte_rows : (n : ℕ) → length (byte_rows n) ≡ n
unfolding byte_rows
length-byte_rows zero = refl
length-byte_rows (suc n) = length-append (byte_rows n) (_ ∷ []) ∙ omega (arith, length-byte_rows n)

-- one entry more
snoc : (l : List ℕ) (n x k : ℕ) → length l ≡ n → (f : ℕ → ℕ) → ((i : ℕ) → i < n → get_or l i 0 ≡ f i) → x ≡ f n → k < suc n → get_or (l ++ (x ∷ [])) k 0 ≡ f k
snoc l n x k e f g d h = go (eqb k n) refl
  where
    go : (b : Bool) → eqb k n ≡ b → get_or (l ++ (x ∷ [])) k 0 ≡ f k
    go true q =
        let z : k ≡ n = eqb-true k n q in
        ap (λ (i : ℕ). get_or (l ++ (x ∷ [])) i 0) (z ∙ sym e) ∙ get_or-append_seam l x [] 0 ∙ d ∙ ap f (sym z)
    go false q =
        let z : k ≡ n → ⊥ = eqb-false k n q in
        let m : k < n = omega arith in
        get_or-append l (x ∷ []) 0 k (omega arith) ∙ g k m

pub byte_entry : (n k : ℕ) → k < n → get_or (byte_rows n) k 0 ≡ octets (k / 256 + 1) (k % 256)
unfolding byte_rows
byte_entry zero k h = absurd (not-suc-le-zero h)
byte_entry (suc n) k h = snoc (byte_rows n) n _ k (length-byte_rows n) (λ i. octets (i / 256 + 1) (i % 256)) (byte_entry n) refl h

-- by four rows of bytes, in a list whose first n entries are right
pub front_bytes : (t : List ℕ) (n r x : ℕ) → ((k : ℕ) → k < n → get_or t k 0 ≡ octets (k / 256 + 1) (k % 256)) → r * 256 + 1024 ≤ n → x < 2 ^ 32
    → by_bytes t r x ≡ octets (suc (suc (suc (suc r)))) x
unfolding by_bytes
front_bytes t n r x g h k =
    ap₂ bit_xor
    (ap₂ bit_xor (at (r * 256 + 768 + x % 256) (r + 3) (x % 256) (omega arith) (omega arith) (omega arith) (omega arith))
    (at (r * 256 + 512 + x / 256 % 256) (r + 2) (x / 256 % 256) (omega arith) (omega arith) (omega arith) (omega arith)))
    (ap₂ bit_xor (at (r * 256 + 256 + x / 65536 % 256) (r + 1) (x / 65536 % 256) (omega arith) (omega arith) (omega arith) (omega arith))
    (at (r * 256 + x / 16777216 % 256) r (x / 16777216 % 256) (omega arith) (omega arith) (omega arith) refl))
    ∙ four_bytes r x k
  where
    at : (i j b : ℕ) {m : ℕ} → i ≡ j * 256 + b → b < 256 → i < n → suc j ≡ m → get_or t i 0 ≡ octets m b
    at i j b e l f q =
        let u : i / 256 + 1 ≡ suc j = omega arith in
        let v : i % 256 ≡ b = omega arith in
        g i f ∙ ap₂ octets (u ∙ q) v

-- ---- tables that are lent

-- a table of half bytes
pub four_few : (t : List ℕ) (x : ℕ) → length t < 2048 → four_halves t x ≡ four_by t x
unfolding four_halves four_by
four_few t x h = simp (lt-ltb (length t) 2048 h)

module _ (t : List ℕ) where
  pub rows_steps : Rows t → length t < 2048 → Steps t
  rows_steps h l =
      record {
        four = λ x k m. sym (four_few t x l) ∙ four_halves_lem t x h m k;
        eight = λ x k m. absurd (omega arith);
      }

  pub byte_steps : t ≡ byte_rows 2048 → Steps t
  unfolding four_by eight_by
  byte_steps e =
      record {
        four = λ x k m. simp (le-ltb (length t) 128 m, le-ltb (length t) 2048 (omega (arith, size))) (at 0 x k (omega arith));
        eight = λ x k m. simp (le-ltb (length t) 2048 m) (at 4 x k (omega arith));
      }
    where
      size : length t ≡ 2048
      size = ap length e ∙ length-byte_rows 2048

      at : (r x : ℕ) → x < 2 ^ 32 → r ≤ 4 → by_bytes t r x ≡ octets (suc (suc (suc (suc r)))) x
      at r x k h = ap (λ (s : List ℕ). by_bytes s r x) e ∙ front_bytes (byte_rows 2048) 2048 r x (byte_entry 2048) (omega arith) k
