-- What the standard library says of digits and places, in the words of the definitions; and the loop of `value_in`.
use Rattle.std.specs.Prelude.{ℕ, suc, ◌+◌, ◌*◌, ◌≤◌, ◌<◌, ◌≡◌, refl, Bool, true, false, List, [], ◌∷◌, Option, Some, None, not, cond, ◌&&◌, ltb, eqb, length, get_or, take, drop}
use Rattle.std.proofs.Common.{sym, ◌∙◌, arith, add-one, ⊎_elim, lt-ltb, le-ltb, ltb-false, eq-eqb, ne_eqb, drop-cons, drop_of_length-le}
use Rattle.std.proofs.lemmas.Bool.Decides.{nat_tests}
use Rattle.std.proofs.lemmas.Bool.{cases_lt}
use Rattle.std.proofs.lemmas.List.Sums.{prefix_len-le-length}
use lib.Pointwise.{pointwise}
use Rattle.std.specs.Char.{digit_value, is_ascii_hexdigit}
use Rattle.std.specs.Option.{unwrap_or}
use Rattle.std.specs.List.{position, position_or_len}
use Rattle.base.specs.Choice.{pick}
use Rattle.digits.specs.Digit.{digit_of, first_bad}
use Rattle.digits.specs.Number.{value_from, number_of}

-- up to 16 a base takes the same characters here and there, at the same values
module _ (c base : ℕ) (h : base < 17) where
  worth : digit_value c < base → digit_of c ≡ digit_value c
  unfolding digit_of
  worth l = grind (arith, nat_tests)

  none : (digit_value c < base → ⊥) → base ≤ digit_of c
  unfolding digit_of
  none l = grind (arith, nat_tests)

is_hex : (c : ℕ) → is_ascii_hexdigit c ≡ ltb (digit_of c) 16
unfolding digit_of
is_hex c = grind (arith, nat_tests)

bad_place : (s : List ℕ) → position_or_len (λ b. not (is_ascii_hexdigit b)) s ≡ first_bad s
unfolding first_bad
bad_place [] = refl
bad_place (b ∷ s) = rw (sym (is_hex b)) (go (is_ascii_hexdigit b) (bad_place s))
  where
    go : (t : Bool) → position_or_len (λ c. not (is_ascii_hexdigit c)) s ≡ first_bad s
        → cond (not (not t)) (1 + position_or_len (λ c. not (is_ascii_hexdigit c)) s) 0 ≡ pick t (suc (first_bad s)) 0
    go true e = omega arith
    go false e = refl

-- where all are digits no place is found, and the length is told
pub told : (s : List ℕ) → unwrap_or (position (λ b. not (is_ascii_hexdigit b)) s) (length s) ≡ first_bad s
told s = go (ltb (position_or_len (λ b. not (is_ascii_hexdigit b)) s) (length s)) refl
  where
    go : (t : Bool) → ltb (position_or_len (λ b. not (is_ascii_hexdigit b)) s) (length s) ≡ t
        → unwrap_or (cond t (Some (position_or_len (λ b. not (is_ascii_hexdigit b)) s)) None) (length s) ≡ first_bad s
    go true e = bad_place s
    go false e = let h : length s ≤ position_or_len (λ b. not (is_ascii_hexdigit b)) s = ltb-false _ _ e in
        omega (arith, prefix_len-le-length (λ b. not (not (is_ascii_hexdigit b))) s, bad_place s)

-- the characters from place i on go on from n
module _ (base n i : ℕ) (s : List ℕ) (g : value_from base n (drop i s) ≡ value_from base 0 s) where
  pub done : length s ≤ i → Some n ≡ value_from base 0 s
  unfolding value_from
  done h = rw (drop_of_length-le s {i = i} h) at g

  module _ (b : base < 17) (h : i < length s) {d : ℕ} (e : d ≡ get_or s i 0) where
    here : value_from base n (d ∷ drop (i + 1) s) ≡ value_from base 0 s
    here = rw (add-one, e) (rw (drop-cons s i 0 h) at g)

    pub no_digit : (digit_value d < base → ⊥) → None ≡ value_from base 0 s
    unfolding value_from
    no_digit l = let k : base ≤ digit_of d = none d base b l in simp (le-ltb _ _ k) at here

    module _ {x : ℕ} (l : (digit_value d < base) × (x ≡ digit_value d)) where
      step : pick (ltb 0xFFFFFFFF (n * base + x)) None (value_from base (n * base + x) (drop (i + 1) s)) ≡ value_from base 0 s
      unfolding value_from
      step =
          let f : digit_of d ≡ x = worth d base b l.0 ∙ sym l.1 in
          let k : x < base = omega arith in
          simp (lt-ltb _ _ k) at (rw f at here)

      pub too_large : (n * base + x < 0x1_0000_0000 → ⊥) → None ≡ value_from base 0 s
      too_large k = let q : 0xFFFFFFFF < n * base + x = omega arith in simp (lt-ltb _ _ q) at step

      pub turn : {y : ℕ} → y < 0x1_0000_0000 → y ≡ n * base + x → value_from base y (drop (i + 1) s) ≡ value_from base 0 s
      turn k f = let q : n * base + x ≤ 0xFFFFFFFF = omega arith in rw f (simp (le-ltb _ _ q) at step)

-- does a text begin with 0x?
abbrev pub marked : List ℕ → Bool
marked s = pointwise eqb (take 2 s) (48 ∷ 120 ∷ [])

-- the cases of `number_of`
module _ (s : List ℕ) where
  pub empty : length s ≡ 0 → None ≡ number_of s
  unfolding number_of
  empty h = simp (eq-eqb _ _ h)

  short : (length s ≡ 0 → ⊥) → length s < 3 → value_from 10 0 s ≡ number_of s
  unfolding number_of
  short g h = simp (ne_eqb _ _ g, lt-ltb _ _ h)

long : (s : List ℕ) → 3 ≤ length s → pick (marked s) (value_from 16 0 (drop 2 s)) (value_from 10 0 s) ≡ number_of s
unfolding number_of
long [] h = absurd (omega arith)
long (a ∷ []) h = absurd (omega arith)
long (a ∷ b ∷ []) h = absurd (omega arith)
long (a ∷ b ∷ c ∷ s) h =
    simp (ne_eqb (length (a ∷ b ∷ c ∷ s)) 0 (λ e. omega arith), le-ltb (length (a ∷ b ∷ c ∷ s)) 3 h)
    (go (eqb a 48) (eqb b 120))
  where
    go : (p q : Bool) → pick (p && (q && true)) (value_from 16 0 (c ∷ s)) (value_from 10 0 (a ∷ b ∷ c ∷ s))
        ≡ pick p (pick q (value_from 16 0 (c ∷ s)) (value_from 10 0 (a ∷ b ∷ c ∷ s))) (value_from 10 0 (a ∷ b ∷ c ∷ s))
    go true true = refl
    go true false = refl
    go false q = refl

module _ (s : List ℕ) {r : Option ℕ} where
  pub hex : 3 ≤ length s → marked s ≡ true → r ≡ value_from 16 0 (drop 2 s) → r ≡ number_of s
  hex h m e = e ∙ rw m at (long s h)

  pub decimal : (length s ≡ 0 → ⊥) → (3 ≤ length s → marked s ≡ false) → r ≡ value_from 10 0 s → r ≡ number_of s
  decimal g m e = e ∙ ⊎_elim (λ h. short s g h) (λ h. rw (m h) at (long s h)) (cases_lt (length s) 3)
