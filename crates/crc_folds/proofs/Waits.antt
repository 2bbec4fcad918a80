-- Words that wait: the numbers that fold and settle make of them, and what the loops over words keep.
use Rattle.std.proofs.Common.{◌≡◌, refl, sym, ap, ap₂, ◌∙◌, inl, inr, ⊎_elim, List, ℕ, zero, suc, ◌+◌, ◌-◌, ◌*◌, ◌/◌, ◌%◌, ◌^◌, ◌≤◌, ◌<◌, add-zero, mod-lt, mul_assoc, arith, length, drop, take, length-drop, pow_pos, shr-shr, shr_lt, bit_xor}
use Rattle.std.proofs.lemmas.Nat.{shl-shr, xor_comm, xor_lt, xor_block}
use Rattle.std.proofs.Math.Pow.{split, high, low}
use Rattle.std.specs.Int.Bits.{xor_zero_r, xor_shifted}
use Rattle.base.specs.XorLaws.{xor_assoc, xor_swap}
use Rattle.crc.specs.Crc.{bit_steps, bytes_from}
use Rattle.crc.specs.Octets.{octets, word}
use Rattle.crc.proofs.CrcLaws.{bit_steps-add, bit_steps-over, bit_steps-split, bit_steps-down, wider}
use Rattle.crc_nibbles.specs.Rows.{Rows, four_halves, bytes_halves}
use Rattle.crc_nibbles.specs.RowsLaws.{four_halves_lem, bytes_halves_lem}
use Rattle.crc_folds.specs.Waits.{over, register, Taps, tap, both, spread, far, seven, near, folded, Fits, Waits}
use Rattle.crc_folds.specs.declared.Waiting.{Waiting}
use Rattle.crc_folds.proofs.Walk.{part, whole_rest}
use Rattle.crc_folds.proofs.Multiple.{Multiple, beyond, far_multiple, near_multiple, spread_lt, fold_same}

-- ---- words above each other

times_word : (x y : ℕ) → bit_xor x y * 2 ^ 64 ≡ bit_xor (x * 2 ^ 64) (y * 2 ^ 64)
times_word x y =
    sym
    (ap₂ bit_xor (sym (add-zero (x * 2 ^ 64))) (sym (add-zero (y * 2 ^ 64))) ∙ xor_block 64 x y 0 0 (omega arith) (omega arith)
    ∙ add-zero (bit_xor x y * 2 ^ 64))

over_xor : (u v x y : ℕ) → bit_xor (over u v) (over x y) ≡ over (bit_xor u x) (bit_xor v y)
unfolding over
over_xor u v x y = xor_swap u (v * 2 ^ 64) x (y * 2 ^ 64) ∙ ap (bit_xor (bit_xor u x)) (sym (times_word v y))

-- what is added to the words above
over_over : (u v y : ℕ) → over (over u v) y ≡ over u (bit_xor v y)
unfolding over
over_over u v y = xor_assoc u (v * 2 ^ 64) (y * 2 ^ 64) ∙ ap (bit_xor u) (sym (times_word v y))

-- what is added to the lowest word
xor_over : (x u v : ℕ) → bit_xor x (over u v) ≡ over (bit_xor x u) v
unfolding over
xor_over x u v = sym (xor_assoc x u (v * 2 ^ 64))

over_zero : (x : ℕ) → over x 0 ≡ x
unfolding over
over_zero x = xor_zero_r x

over_is : (x y : ℕ) → x < 2 ^ 64 → over x y ≡ y * 2 ^ 64 + x
unfolding over
over_is x y h = xor_comm x (y * 2 ^ 64) ∙ xor_shifted y 64 x h

-- a product that reaches into the word above
shifted : (k j x : ℕ) → k + j ≡ 64 → x * 2 ^ k ≡ over (x * 2 ^ k % 2 ^ 64) (x / 2 ^ j)
shifted k j x e =
    sym (over_is (x * 2 ^ k % 2 ^ 64) (x / 2 ^ j) (mod-lt (x * 2 ^ k) (pow_pos 64))
    ∙ ap (λ (y : ℕ). y * 2 ^ 64 + x * 2 ^ k % 2 ^ 64) (sym top)
    ∙ split (x * 2 ^ k) 64)
  where
    top : x * 2 ^ k / 2 ^ 64 ≡ x / 2 ^ j
    top = ap (λ (n : ℕ). x * 2 ^ k / 2 ^ n) (sym e) ∙ sym (shr-shr (x * 2 ^ k) k j) ∙ ap (λ (y : ℕ). y / 2 ^ j) (shl-shr x k)

-- the lowest word of what is spread over two, and the word above
abbrev low_word : Taps → ℕ → ℕ
low_word (tap j) x = x * 2 ^ j % 2 ^ 64
low_word (both s t) x = bit_xor (low_word s x) (low_word t x)

abbrev high_word : Taps → ℕ → ℕ
high_word (tap j) x = x / 2 ^ (64 - j)
high_word (both s t) x = bit_xor (high_word s x) (high_word t x)

in_words : (t : Taps) (x : ℕ) → beyond t 64 ≡ 0 → spread t x ≡ over (low_word t x) (high_word t x)
unfolding spread
in_words (tap j) x e = shifted j (64 - j) x (omega arith)
in_words (both s t) x e =
    ap₂ bit_xor (in_words s x (omega arith)) (in_words t x (omega arith))
    ∙ over_xor (low_word s x) (high_word s x) (low_word t x) (high_word t x)

over_high : (x y : ℕ) → x < 2 ^ 64 → over x y / 2 ^ 64 ≡ y
over_high x y h = ap (λ (n : ℕ). n / 2 ^ 64) (over_is x y h) ∙ high y 64 h

over_low : (x y : ℕ) → x < 2 ^ 64 → over x y % 2 ^ 64 ≡ x
over_low x y h = ap (λ (n : ℕ). n % 2 ^ 64) (over_is x y h) ∙ low y 64 h

-- ---- the next word

joined : (a y w : ℕ) → bit_xor (over a y) w ≡ over (bit_xor a w) y
unfolding over
joined a y w = xor_assoc a (y * 2 ^ 64) w ∙ ap (bit_xor a) (xor_comm (y * 2 ^ 64) w) ∙ sym (xor_assoc a w (y * 2 ^ 64))

-- the next word, a with w, goes to the taps
folded_over : (t : Taps) (a y w : ℕ) → a < 2 ^ 64 → w < 2 ^ 64 → folded t (bit_xor (over a y) w) ≡ bit_xor y (spread t (bit_xor a w))
unfolding folded
folded_over t a y w h g =
    let l : bit_xor a w < 2 ^ 64 = xor_lt 64 a w h g in
    ap (λ (n : ℕ). bit_xor (n / 2 ^ 64) (spread t (n % 2 ^ 64))) (joined a y w)
    ∙ ap₂ (λ (i j : ℕ). bit_xor i (spread t j)) (over_high (bit_xor a w) y l) (over_low (bit_xor a w) y l)

far_words : (x : ℕ) → spread far x ≡ over 0 (over (spread (both (tap 17) (tap 55)) x) (over (spread (tap 19) x) (spread (tap 44) x)))
unfolding far spread over
far_words x = sym (simp (times_word, mul_assoc))

pub far_is : (a b c d e w : ℕ) → a < 2 ^ 64 → w < 2 ^ 64
    → over b
    (over (bit_xor c (bit_xor (bit_xor a w * 2 ^ 17 % 2 ^ 64) (bit_xor a w * 2 ^ 55 % 2 ^ 64)))
    (over (bit_xor d (bit_xor (bit_xor (bit_xor a w / 2 ^ 47) (bit_xor a w / 2 ^ 9)) (bit_xor a w * 2 ^ 19 % 2 ^ 64)))
    (over (bit_xor e (bit_xor (bit_xor a w / 2 ^ 45) (bit_xor a w * 2 ^ 44 % 2 ^ 64))) (bit_xor a w / 2 ^ 20))))
    ≡ folded far (bit_xor (over a (over b (over c (over d e)))) w)
far_is a b c d e w h g =
    sym
    (folded_over far a (over b (over c (over d e))) w h g ∙ ap (bit_xor (over b (over c (over d e)))) (far_words x)
    ∙ over_xor b (over c (over d e)) 0 (over (spread s x) y)
    ∙ ap₂ over (xor_zero_r b)
    (ap (bit_xor (over c (over d e))) (ap₂ over (in_words s x refl) rest ∙ over_over p q (over i (over k j)) ∙ ap (over p) (xor_over q i (over k j)))
    ∙ over_xor c (over d e) p (over (bit_xor q i) (over k j))
    ∙ ap (over (bit_xor c p)) (over_xor d e (bit_xor q i) (over k j) ∙ ap (over (bit_xor d (bit_xor q i))) (xor_over e k j))))
  where
    x : ℕ
    x = bit_xor a w

    s : Taps
    s = both (tap 17) (tap 55)

    y : ℕ
    y = over (spread (tap 19) x) (spread (tap 44) x)

    p : ℕ
    p = low_word s x

    q : ℕ
    q = high_word s x

    i : ℕ
    i = x * 2 ^ 19 % 2 ^ 64

    k : ℕ
    k = bit_xor (x / 2 ^ 45) (x * 2 ^ 44 % 2 ^ 64)

    j : ℕ
    j = x / 2 ^ 20

    rest : y ≡ over i (over k j)
    rest =
        ap₂ over (in_words (tap 19) x refl) (in_words (tap 44) x refl) ∙ over_over i (x / 2 ^ 45) (over (x * 2 ^ 44 % 2 ^ 64) j)
        ∙ ap (over i) (xor_over (x / 2 ^ 45) (x * 2 ^ 44 % 2 ^ 64) j)

pub near_is : (a b c d e w : ℕ) → a < 2 ^ 64 → w < 2 ^ 64
    → over (bit_xor (bit_xor b (bit_xor a w)) (low_word seven (bit_xor a w)))
    (over (bit_xor c (high_word seven (bit_xor a w))) (over d (over e 0)))
    ≡ folded near (bit_xor (over a (over b (over c (over d e)))) w)
unfolding near spread
near_is a b c d e w h g =
    ap₂ (λ (i j : ℕ). over i (over (bit_xor c (high_word seven x)) (over d j))) (xor_assoc b x p) (over_zero e)
    ∙ sym
    (folded_over near a (over b y) w h g
    ∙ ap (bit_xor (over b y)) (ap₂ bit_xor one (in_words seven x refl) ∙ xor_over x p q)
    ∙ over_xor b y (bit_xor x p) q
    ∙ ap (over (bit_xor b (bit_xor x p))) (joined c (over d e) q))
  where
    x : ℕ
    x = bit_xor a w

    y : ℕ
    y = over c (over d e)

    p : ℕ
    p = low_word seven x

    q : ℕ
    q = high_word seven x

    one : x * 2 ^ 0 ≡ x
    one = omega arith

-- the steps of eight bytes, four and four
two_fours : (x : ℕ) → octets 4 (bit_xor (octets 4 (x % 2 ^ 32)) (x / 2 ^ 32)) ≡ octets 8 x
unfolding octets
two_fours x = sym (bit_steps-add 32 32 x ∙ ap (bit_steps 32) (bit_steps-split 32 x))

octets_over : (x y : ℕ) → octets 8 (over x y) ≡ bit_xor (octets 8 x) y
unfolding octets over
octets_over x y = bit_steps-over 64 x y

pub settle_is : (t : List ℕ) (a b c d e w u v : ℕ) → Rows t → 128 ≤ length t → a < 2 ^ 64 → w < 2 ^ 64
    → u ≡ four_halves t (bit_xor a w % 2 ^ 32) → u < 2 ^ 32 → v ≡ four_halves t (bit_xor u (bit_xor a w / 2 ^ 32))
    → over (bit_xor b v) (over c (over d (over e 0))) ≡ octets 8 (bit_xor (over a (over b (over c (over d e)))) w)
settle_is t a b c d e w u v g l h k p small q =
    ap₂ (λ (i j : ℕ). over i (over c (over d j))) (xor_comm b v) (over_zero e) ∙ sym (xor_over v b (over c (over d e)))
    ∙ sym (ap (octets 8) (joined a y w) ∙ octets_over x y ∙ ap (λ (i : ℕ). bit_xor i y) (sym (two_fours x) ∙ sym whole))
  where
    y : ℕ
    y = over b (over c (over d e))

    x : ℕ
    x = bit_xor a w

    first : u ≡ octets 4 (x % 2 ^ 32)
    first = p ∙ four_halves_lem t (x % 2 ^ 32) g l (mod-lt x (pow_pos 32))

    whole : v ≡ octets 4 (bit_xor (octets 4 (x % 2 ^ 32)) (x / 2 ^ 32))
    whole =
        q ∙ four_halves_lem t (bit_xor u (x / 2 ^ 32)) g l (xor_lt 32 u (x / 2 ^ 32) small (shr_lt 32 32 (xor_lt 64 a w h k)))
        ∙ ap (λ (i : ℕ). octets 4 (bit_xor i (x / 2 ^ 32))) first

-- ---- how large it is

pub fits_small : (n m : ℕ) → n < 2 ^ 32 → Fits n m
unfolding Fits
fits_small n m h = inl h

fits_end : (n m : ℕ) → Fits n m → m < 8 → n < 2 ^ 32
unfolding Fits
fits_end n m (inl h) l = h
fits_end n m (inr h) l =
    let e : 64 * (m / 8) ≡ 0 = omega arith in
    let g : n < 2 ^ 0 = rw e at h in
    omega arith

settled_32 : (y : ℕ) → y < 2 ^ 64 → octets 8 y < 2 ^ 32
unfolding octets
settled_32 y h = bit_steps-down 64 32 y (omega arith) (wider 64 96 h (omega arith))

settled_lt : (j m y : ℕ) → m / 8 ≡ j → y < 2 ^ (64 + 64 * j) → Fits (octets 8 y) m
unfolding Fits octets
settled_lt zero m y p h = inl (settled_32 y h)
settled_lt (suc j) m y p h =
    let e : 64 * suc j ≡ 64 * (m / 8) = omega arith in
    inr (rw e at (bit_steps-down 64 (64 * suc j) y (omega arith) h))

joined_lt : (n m w : ℕ) → Fits n m → 8 ≤ m → w < 2 ^ 64 → bit_xor n w < 2 ^ (64 + 64 * ((m - 8) / 8))
unfolding Fits
joined_lt n m w f l g =
    let j : ℕ = 64 + 64 * ((m - 8) / 8) in
    let e : 64 * (m / 8) ≡ j = omega arith in
    xor_lt j n w (⊎_elim (λ h. wider 32 j h (omega arith)) (λ h. rw e at h) f) (wider 64 j g (omega arith))

fits_settled : (n m w : ℕ) → Fits n m → 8 ≤ m → w < 2 ^ 64 → Fits (octets 8 (bit_xor n w)) (m - 8)
fits_settled n m w f l g = settled_lt ((m - 8) / 8) (m - 8) (bit_xor n w) refl (joined_lt n m w f l g)

pub fits_folded : {t : Taps} {k : ℕ} → Multiple t k → (n m w : ℕ) → Fits n m → w < 2 ^ 64 → 64 + k ≤ 64 * ((m - 8) / 8)
    → Fits (folded t (bit_xor n w)) (m - 8)
unfolding Fits folded
fits_folded {t} {k} d n m w f g l =
    let y : ℕ = bit_xor n w in
    let j : ℕ = 64 * ((m - 8) / 8) in
    let e : 64 + j ≡ j + 64 = omega arith in
    let h : y < 2 ^ (j + 64) = rw e at (joined_lt n m w f (omega arith) g) in
    inr
    (xor_lt j (y / 2 ^ 64) (spread t (y % 2 ^ 64)) (shr_lt j 64 h)
    (wider (64 + k) j (spread_lt t k (y % 2 ^ 64) (mod-lt y (pow_pos 64)) d.within) l))

-- a register of 32 digits is its lowest word
lowest : (f : Waiting) → f.a < 2 ^ 64 → register f < 2 ^ 32 → register f ≡ f.a
unfolding register
lowest f h l = omega (arith, over_is f.a (over f.b (over f.c (over f.d f.e))) h)

-- ---- the loops over words

pub alone_is : (a : ℕ) → register (record { a = a; b = 0; c = 0; d = 0; e = 0 }) ≡ a
unfolding register over
alone_is a = xor_zero_r a

pub waits_start : (c : ℕ) (s : List ℕ) (i : ℕ) → i ≤ length s → Fits c (length s - i) → Waits (bytes_from c (drop i s)) s c i
waits_start c s i l h = record { some = l; left = refl; fits = h }

module _ {v : ℕ} {s : List ℕ} {n i w m : ℕ} (g : Waits v s n i) where
  -- m does to what is behind the next word what its steps do
  turned : 8 ≤ length s - i → w ≡ word (take 8 (drop i s))
      → bytes_from m (drop (i + 8) s) ≡ bytes_from (octets 8 (bit_xor n w)) (drop (i + 8) s)
      → Fits m (length s - i - 8)
      → Waits v s m (i + 8)
  turned h e p f =
      let q : length s - i - 8 ≡ length s - (i + 8) = omega arith in
      record {
        some = omega arith;
        left = p ∙ ap (λ (x : ℕ). bytes_from (octets 8 (bit_xor n x)) (drop (i + 8) s)) e ∙ part 8 s i n h ∙ g.left;
        fits = rw q at f;
      }

  folded_turn : {t : Taps} {k : ℕ} → Multiple t k → 64 + k ≤ 64 * ((length s - i - 8) / 8) → w < 2 ^ 64 → w ≡ word (take 8 (drop i s))
      → m ≡ folded t (bit_xor n w) → Waits v s m (i + 8)
  folded_turn {t} {k} d h l e p =
      turned (omega arith) e
      (ap (λ (x : ℕ). bytes_from x (drop (i + 8) s)) p
      ∙ fold_same d (bit_xor n w) (drop (i + 8) s) (omega (arith, length-drop (i + 8) s)))
      (rw p (fits_folded d n (length s - i) w g.fits l h))

  pub far_turn : 48 ≤ length s - i → w < 2 ^ 64 → w ≡ word (take 8 (drop i s)) → m ≡ folded far (bit_xor n w) → Waits v s m (i + 8)
  far_turn h = folded_turn far_multiple (omega arith)

  pub near_turn : 24 ≤ length s - i → w < 2 ^ 64 → w ≡ word (take 8 (drop i s)) → m ≡ folded near (bit_xor n w) → Waits v s m (i + 8)
  near_turn h = folded_turn near_multiple (omega arith)

  pub settled_turn : 8 ≤ length s - i → w < 2 ^ 64 → w ≡ word (take 8 (drop i s)) → m ≡ octets 8 (bit_xor n w) → Waits v s m (i + 8)
  settled_turn h l e p =
      turned h e (ap (λ (x : ℕ). bytes_from x (drop (i + 8) s)) p) (rw p (fits_settled n (length s - i) w g.fits h l))

-- less than a word is left, so the register is back in the lowest word
module _ {v : ℕ} {s : List ℕ} (f : Waiting) {i : ℕ} (g : Waits v s (register f) i) (h : length s - i < 8) (l : f.a < 2 ^ 64) where
  back : register f ≡ f.a
  back = lowest f l (fits_end (register f) (length s - i) g.fits h)

  pub waits_small : f.a < 2 ^ 32
  waits_small = omega (arith, fits_end (register f) (length s - i) g.fits h, back)

  pub waits_done : (t : List ℕ) {x : ℕ} → Rows t → 128 ≤ length t → x ≡ bytes_halves t f.a (take (length s - i) (drop i s)) → x ≡ v
  waits_done t r k e =
      e ∙ bytes_halves_lem t r (omega arith) f.a (take (length s - i) (drop i s)) ∙ ap₂ bytes_from (sym back) (whole_rest s i) ∙ g.left
