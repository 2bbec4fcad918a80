-- What `stands` answers, by the bytes that it looked at.
use Rattle.std.proofs.Common.{◌≡◌, ℕ, suc, ◌≤◌, ◌<◌, List, [], ◌∷◌, Bool, true, false, ◌&&◌, ◌⊎◌, inl, inr, length, take, drop, leb, refl, sym, ap, ◌∙◌, arith}
use Rattle.std.proofs.Math.Bool.{and_assoc, and-true}
use Rattle.std.proofs.lemmas.List.{nil_from_length}
use Rattle.utf8_spec.specs.Utf8.{begins}
use Rattle.utf8_spec.specs.Utf8Laws.{begins_fits}
use Rattle.utf8.specs.Places.{ranges}

pub length-ranges : (r : List (ℕ × ℕ)) → length (ranges r) ≡ length r
length-ranges [] = refl
length-ranges (x ∷ r) = ap suc (length-ranges r)

-- too few bytes are left
pub too_few : (r : List (ℕ × ℕ)) (s : List ℕ) (at n : ℕ) → length r ≡ n → at ≤ length s → length (drop at s) < n → false ≡ begins (ranges r) (drop at s)
too_few r s at n e h l = by (begins (ranges r) (drop at s)) refl
  where
    by : (t : Bool) → begins (ranges r) (drop at s) ≡ t → false ≡ t
    by true f = absurd (omega (arith, begins_fits (ranges r) (drop at s) f, length-ranges r))
    by false f = refl

-- the bytes behind a row are not looked at
front : (r : List (ℕ × ℕ)) (s : List ℕ) → begins (ranges r) (take (length r) s) ≡ begins (ranges r) s
unfolding begins
front [] s = refl
front (x ∷ r) [] = refl
front (x ∷ r) (b ∷ s) = ap ((leb x.0 b && leb b x.1) &&◌) (front r s)

-- t and r are left to be compared, where all before them was right or not
pub record Standing (row : List (ℕ × ℕ)) (s : List ℕ) (all : Bool) (t : List ℕ) (r : List (ℕ × ℕ)) : Type 0 where
  pub sizes : length t ≡ length r
  pub left : (all && begins (ranges r) t) ≡ begins (ranges row) s

pub standing_start : (row : List (ℕ × ℕ)) (s t : List ℕ) (n : ℕ) → length row ≡ n → length t ≡ n → t ≡ take n s → Standing row s true t row
standing_start row s t n e l d = record { sizes = omega (arith, e, l); left = rw (d, sym e) (front row s) }

pub standing_turn : {row : List (ℕ × ℕ)} {s t u : List ℕ} {r q : List (ℕ × ℕ)} {all ok : Bool} {b : ℕ} {x : ℕ × ℕ} → Standing row s all t r → t ≡ b ∷ u → r ≡ x ∷ q
    → ok ≡ (leb x.0 b && leb b x.1) → Standing row s (all && ok) u q
unfolding begins
standing_turn {row} {s} {t} {u} {r} {q} {all} {ok} {b} {x} g d e f =
    let l : suc (length u) ≡ suc (length q) = sym (ap length d) ∙ g.sizes ∙ ap length e in
    record {
      sizes = omega (arith, l);
      left = rw (f, and_assoc all (leb x.0 b && leb b x.1) (begins (ranges q) u)) (rw (d, e) at g.left);
    }

pub standing_done : {row : List (ℕ × ℕ)} {s t : List ℕ} {r : List (ℕ × ℕ)} {all : Bool} → Standing row s all t r → (t ≡ []) ⊎ (r ≡ []) → all ≡ begins (ranges row) s
unfolding begins
standing_done {row} {s} {t} {r} {all} g h =
    let n : length r ≡ 0 = elim h [ inl e ↦ sym g.sizes ∙ ap length e | inr e ↦ ap length e ] in
    let d : r ≡ [] = nil_from_length r n in
    sym (and-true all) ∙ (rw d at g.left)
