-- Laws of hex text: sizes, what stands where, and digits that are read back.
use Rattle.std.specs.Prelude.{ℕ, zero, suc, ◌+◌, ◌*◌, ◌/◌, ◌%◌, ◌≤◌, ◌<◌, Bool, true, false, List, [], ◌∷◌, ◌≡◌, refl, ltb, length, get_or}
use Rattle.std.proofs.Common.{ap, ap₂, arith, lt-ltb, le-ltb, ltb-true, ltb-false}
use Rattle.base.specs.Choice.{pick}
use Rattle.base.specs.Bytes.{Bytes}
use Rattle.digits.specs.Digit.{digit_of, first_bad}
use Rattle.hex_text.specs.Hex.{glyph_of, spelt, digits}

pub length-spelt : (s : List ℕ) → length (spelt s) ≡ length s / 2
unfolding spelt
length-spelt [] = refl
length-spelt (a ∷ []) = refl
length-spelt (a ∷ b ∷ s) = omega (arith, length-spelt s)

-- the byte at place j comes of the characters at 2 j and behind it
pub spelt_at : (s : List ℕ) (j : ℕ) → j < length s / 2 → digit_of (get_or s (j * 2) 0) * 16 + digit_of (get_or s (j * 2 + 1) 0) ≡ get_or (spelt s) j 0
unfolding spelt
spelt_at [] j h = absurd (omega arith)
spelt_at (a ∷ []) j h = absurd (omega arith)
spelt_at (a ∷ b ∷ s) zero h = refl
spelt_at (a ∷ b ∷ s) (suc j) h =
    let e : suc j * 2 ≡ suc (suc (j * 2)) = omega arith in
    let f : suc j * 2 + 1 ≡ suc (suc (j * 2 + 1)) = omega arith in
    rw (f, e) (spelt_at s j (omega arith))

pub length_digits : (s : List ℕ) → length (digits s) ≡ length s * 2
unfolding digits
length_digits [] = refl
length_digits (b ∷ s) = omega (arith, length_digits s)

pub high_at : (s : List ℕ) (j : ℕ) → j < length s → glyph_of (get_or s j 0 / 16) ≡ get_or (digits s) (j * 2) 0
unfolding digits
high_at [] j h = absurd (omega arith)
high_at (b ∷ s) zero h = refl
high_at (b ∷ s) (suc j) h = let e : suc j * 2 ≡ suc (suc (j * 2)) = omega arith in rw e (high_at s j (omega arith))

pub low_at : (s : List ℕ) (j : ℕ) → j < length s → glyph_of (get_or s j 0 % 16) ≡ get_or (digits s) (j * 2 + 1) 0
unfolding digits
low_at [] j h = absurd (omega arith)
low_at (b ∷ s) zero h = refl
low_at (b ∷ s) (suc j) h = let e : suc j * 2 + 1 ≡ suc (suc (j * 2 + 1)) = omega arith in rw e (low_at s j (omega arith))

-- a digit that is shown is read as its value
pub digit_back : (d : ℕ) → d < 16 → digit_of (glyph_of d) ≡ d
unfolding digit_of glyph_of
digit_back d h = go (ltb d 10) refl
  where
    go : (t : Bool) → ltb d 10 ≡ t → digit_of (pick t (48 + d) (87 + d)) ≡ d
    go true e =
        let l : d < 10 = ltb-true d 10 e in
        simp (le-ltb (48 + d) 48 (omega arith), lt-ltb (48 + d) 58 (omega arith)) (omega arith)
    go false e =
        let l : 10 ≤ d = ltb-false d 10 e in
        simp
        (le-ltb (87 + d) 48 (omega arith), le-ltb (87 + d) 58 (omega arith), le-ltb (87 + d) 65 (omega arith), le-ltb (87 + d) 71 (omega arith), le-ltb (87 + d) 97 (omega arith), lt-ltb (87 + d) 103 (omega arith))
        (omega arith)

-- bytes that are shown are read back
pub read_back : (s : List ℕ) → Bytes s → spelt (digits s) ≡ s
unfolding spelt digits
read_back [] h = refl
read_back (b ∷ s) h =
    let e : digit_of (glyph_of (b / 16)) * 16 + digit_of (glyph_of (b % 16)) ≡ b =
    omega (arith, h.0, digit_back (b / 16) (omega (arith, h.0)), digit_back (b % 16) (omega arith))
    in
    ap₂ (λ (x : ℕ) (r : List ℕ). x ∷ r) e (read_back s h.1)

-- and all of it is hex
pub all_good : (s : List ℕ) → Bytes s → first_bad (digits s) ≡ length (digits s)
unfolding first_bad digits
all_good [] h = refl
all_good (b ∷ s) h =
    let p : digit_of (glyph_of (b / 16)) < 16 = omega (arith, h.0, digit_back (b / 16) (omega (arith, h.0))) in
    let q : digit_of (glyph_of (b % 16)) < 16 = omega (arith, digit_back (b % 16) (omega arith)) in
    simp (lt-ltb _ _ p, lt-ltb _ _ q) (ap (λ (n : ℕ). suc (suc n)) (all_good s h.1))
