-- The top bits of bytes, taken together: none is set where each byte is below 128.
use Rattle.std.proofs.Common.{ℕ, zero, suc, ◌+◌, ◌-◌, ◌*◌, ◌^◌, ◌≤◌, ◌<◌, List, [], ◌∷◌, Bool, ◌&&◌, ◌≡◌, refl, sym, ap, ◌∙◌, arith, add-one, bit_and, bit_or, length, get_or, take, drop, drop-cons, drop-drop, leb, eqb, ◌++◌, w64, le-leb, eq-eqb, ne_eqb}
use Rattle.std.proofs.lemmas.Nat.{and_block, and_comm, and_le_l, and_le_r}
use Rattle.std.proofs.Math.Bool.{and_assoc}
use Rattle.std.proofs.Math.Decide.{dec_le}
use Rattle.std.specs.Int.Bits.{and_shifted, and_zero_r, or_add_and}
use Rattle.std.specs.Int.{from_le_bytes}
use Rattle.std.proofs.lemmas.Bool.{lt-leb}
use Rattle.base.specs.Bytes.{Bytes}
use Rattle.utf8_spec.specs.Utf8.{begins}
use Rattle.utf8.specs.Steps.{ones}

-- as many bytes as one number, the first lowest, and the number with the top bit of each
abbrev little : ℕ → List ℕ → ℕ
little zero s = 0
little (suc n) [] = 0
little (suc n) (b ∷ s) = little n s * 256 + b

abbrev marks : ℕ → ℕ
marks zero = 0
marks (suc n) = marks n * 256 + 0x80

-- two tests for 0 at once
both : (x y z : ℕ) → (z ≡ 0 → (x ≡ 0) × (y ≡ 0)) → (x ≡ 0 → y ≡ 0 → z ≡ 0) → eqb z 0 ≡ (eqb x 0 && eqb y 0)
both x y z f g = by (dec_le x 0) (dec_le y 0)
  where
    by : Dec (x ≤ 0) → Dec (y ≤ 0) → eqb z 0 ≡ (eqb x 0 && eqb y 0)
    by (yes a) (yes b) = rw (eq-eqb x 0 (omega arith), eq-eqb y 0 (omega arith)) (eq-eqb z 0 (g (omega arith) (omega arith)))
    by (yes a) (no b) = rw (eq-eqb x 0 (omega arith), ne_eqb y 0 (λ e. omega arith)) (ne_eqb z 0 (λ e. b (omega (arith, (f e).1))))
    by (no a) d = rw (ne_eqb x 0 (λ e. omega arith)) (ne_eqb z 0 (λ e. a (omega (arith, (f e).0))))

-- one byte
top_bit : (b : ℕ) → b < 256 → eqb (bit_and b 0x80) 0 ≡ leb b 0x7F
top_bit b h = by (dec_le b 0x7F)
  where
    set : (r : ℕ) → b ≡ 1 * 2 ^ 7 + r → r < 2 ^ 7 → bit_and b 0x80 ≡ 0x80
    set r e l = ap (λ (x : ℕ). bit_and x 0x80) e ∙ and_block 7 1 1 r 0 l (omega arith) ∙ ap (0x80 +◌) (and_zero_r r)

    by : Dec (b ≤ 0x7F) → eqb (bit_and b 0x80) 0 ≡ leb b 0x7F
    by (yes l) = eq-eqb (bit_and b 0x80) 0 (and_comm b 0x80 ∙ and_shifted 1 7 b (omega arith)) ∙ sym (le-leb b 0x7F l)
    by (no l) = ne_eqb (bit_and b 0x80) 0 (λ e. omega (arith, set (b - 0x80) (omega arith) (omega arith))) ∙ sym (lt-leb b 0x7F (omega arith))

tested : (b : ℕ) (t : Bool) → (leb b 0x7F && t) ≡ (leb 0 b && leb b 0x7F && t)
tested b t = rw (le-leb 0 b (omega arith))

-- and so for as many
lows : (n : ℕ) (s : List ℕ) → Bytes (take n s) → n ≤ length s → eqb (bit_and (little n s) (marks n)) 0 ≡ begins (ones n) s
unfolding ones begins
lows zero s h l = refl
lows (suc n) [] h l = absurd (omega arith)
lows (suc n) (b ∷ s) (h, hs) l =
    let x : bit_and (little n s * 2 ^ 8 + b) (marks n * 2 ^ 8 + 0x80) ≡ bit_and (little n s) (marks n) * 2 ^ 8 + bit_and b 0x80 =
    and_block 8 (little n s) (marks n) b 0x80 h (omega arith) in
    ap (λ (y : ℕ). eqb y 0) x
    ∙ both (bit_and b 0x80) (bit_and (little n s) (marks n)) (bit_and (little n s) (marks n) * 2 ^ 8 + bit_and b 0x80) (λ e. (omega arith, omega arith))
    (λ e f. omega arith)
    ∙ rw (top_bit b h, lows n s hs (omega arith)) (tested b (begins (ones n) s))

-- eight bytes at a place as one number
module _ (s : List ℕ) (i : ℕ) where
  abbrev eight_at : List ℕ
  eight_at =
      get_or s i 0 ∷ get_or s (i + 1) 0 ∷ get_or s (i + 2) 0 ∷ get_or s (i + 3) 0 ∷ get_or s (i + 4) 0 ∷ get_or s (i + 5) 0 ∷ get_or s (i + 6) 0
      ∷ get_or s (i + 7) 0 ∷ []

  from : (k : ℕ) (t : List ℕ) {j : ℕ} → j ≡ k + 1 → k < length s → t ≡ drop j s → get_or s k 0 ∷ t ≡ drop k s
  from k t e l f = rw (f, e, add-one, drop-cons s k 0 l) refl

  front : i + 8 ≤ length s → eight_at ++ drop (i + 8) s ≡ drop i s
  front l =
      from i _ (omega arith) (omega arith)
      (from (i + 1) _ (omega arith) (omega arith)
      (from (i + 2) _ (omega arith) (omega arith)
      (from (i + 3) _ (omega arith) (omega arith)
      (from (i + 4) _ (omega arith) (omega arith)
      (from (i + 5) _ (omega arith) (omega arith) (from (i + 6) _ (omega arith) (omega arith) (from (i + 7) _ (omega arith) (omega arith) refl)))))))

  pub eight : {w : ℕ} → i + 8 ≤ length s → ((k : ℕ) → get_or s k 0 < 256) → w ≡ from_le_bytes w64 eight_at
      → eqb (bit_and w 0x8080808080808080) 0 ≡ begins (ones 8) (drop i s)
  eight {w} l h e =
      let sum : from_le_bytes w64 eight_at ≡ little 8 (eight_at ++ drop (i + 8) s) = omega arith in
      let bytes : Bytes (take 8 (eight_at ++ drop (i + 8) s)) = (h i, (h (i + 1), (h (i + 2), (h (i + 3), (h (i + 4), (h (i + 5), (h (i + 6), (h (i + 7), tt)))))))) in
      ap (λ (x : ℕ). eqb (bit_and x 0x8080808080808080) 0) (e ∙ sum) ∙ lows 8 (eight_at ++ drop (i + 8) s) bytes (omega arith)
      ∙ ap (begins (ones 8)) (front l)

-- and several such numbers at once
ones_ones : (n m k : ℕ) (s : List ℕ) → k ≡ n + m → begins (ones k) s ≡ (begins (ones n) s && begins (ones m) (drop n s))
unfolding ones begins
ones_ones zero m k s e = let f : k ≡ m = omega arith in rw f
ones_ones (suc n) m zero s e = absurd (omega arith)
ones_ones (suc n) m (suc k) [] e = refl
ones_ones (suc n) m (suc k) (b ∷ s) e =
    rw (ones_ones n m k s (omega arith)) (sym (and_assoc (leb 0 b && leb b 0x7F) (begins (ones n) s) (begins (ones m) (drop n s))))

or_zero : (x y : ℕ) → eqb (bit_or x y) 0 ≡ (eqb x 0 && eqb y 0)
or_zero x y =
    both x y (bit_or x y) (λ e. (omega (arith, or_add_and x y, and_le_r x y), omega (arith, or_add_and x y, and_le_l x y)))
    (λ e f. omega (arith, or_add_and x y))

joined : (n m k : ℕ) (s : List ℕ) (i j x y : ℕ) → k ≡ n + m → j ≡ i + n → eqb x 0 ≡ begins (ones n) (drop i s) → eqb y 0 ≡ begins (ones m) (drop j s)
    → eqb (bit_or x y) 0 ≡ begins (ones k) (drop i s)
joined n m k s i j x y e f g h = rw (or_zero x y, g, h, f) (sym (ones_ones n m k (drop i s) e ∙ rw (drop-drop n i s)))

pub thirty_two : (s : List ℕ) (i x y z w : ℕ) → eqb x 0 ≡ begins (ones 8) (drop i s) → eqb y 0 ≡ begins (ones 8) (drop (i + 8) s)
    → eqb z 0 ≡ begins (ones 8) (drop (i + 16) s) → eqb w 0 ≡ begins (ones 8) (drop (i + 24) s)
    → eqb (bit_or (bit_or (bit_or x y) z) w) 0 ≡ begins (ones 32) (drop i s)
thirty_two s i x y z w a b c d =
    joined 24 8 32 s i (i + 24) (bit_or (bit_or x y) z) w refl refl
    (joined 16 8 24 s i (i + 16) (bit_or x y) z refl refl (joined 8 8 16 s i (i + 8) x y refl refl a b) c) d
