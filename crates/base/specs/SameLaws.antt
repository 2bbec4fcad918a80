-- What yes says, and the loop that compares two lists place by place.
use Rattle.std.specs.Prelude.{ℕ, suc, ◌<◌, List, [], ◌∷◌, Bool, true, false, ◌&&◌, ◌≡◌, refl, length, get_or, drop, eqb}
use Rattle.std.proofs.Common.{ap, ◌∙◌, arith, eq-eqb, ne_eqb, eqb-true, drop-cons}
use Rattle.std.proofs.Math.Path.{ap₂}
use Rattle.base.specs.Same.{same}

no : false ≡ true → ⊥
no e = let z : ◌≡◌ {A = ℕ} 0 1 = cc in omega arith

-- yes says that they are equal
pub same_eq : (s t : List ℕ) → same s t ≡ true → s ≡ t
unfolding same
same_eq [] [] e = refl
same_eq [] (b ∷ t) e = absurd (no e)
same_eq (a ∷ s) [] e = absurd (no e)
same_eq (a ∷ s) (b ∷ t) e = go (eqb a b) refl e (same_eq s t)
  where
    go : (q : Bool) → eqb a b ≡ q → q && same s t ≡ true → (same s t ≡ true → s ≡ t) → a ∷ s ≡ b ∷ t
    go true p f ih = ap₂ {C = List ℕ} (λ x r. x ∷ r) (eqb-true a b p) (ih f)
    go false p f ih = absurd (no f)

pub same_refl : (s : List ℕ) → same s s ≡ true
unfolding same
same_refl [] = refl
same_refl (a ∷ s) = rw (eq-eqb a a refl) (same_refl s)

module _ (s t : List ℕ) (i : ℕ) (h : i < length s) (k : i < length t) where
  heads : same (drop i s) (drop i t) ≡ eqb (get_or s i 0) (get_or t i 0) && same (drop (suc i) s) (drop (suc i) t)
  unfolding same
  heads = ap₂ same (drop-cons s i 0 h) (drop-cons t i 0 k)

  -- a place where they agree can be passed
  pub same_turn : get_or s i 0 ≡ get_or t i 0 → same (drop i s) (drop i t) ≡ same (drop (suc i) s) (drop (suc i) t)
  same_turn e = heads ∙ ap (λ (q : Bool). q && same (drop (suc i) s) (drop (suc i) t)) (eq-eqb (get_or s i 0) (get_or t i 0) e)

  -- a place where they differ decides
  pub same_differs : (get_or s i 0 ≡ get_or t i 0 → ⊥) → same (drop i s) (drop i t) ≡ false
  same_differs e = heads ∙ ap (λ (q : Bool). q && same (drop (suc i) s) (drop (suc i) t)) (ne_eqb (get_or s i 0) (get_or t i 0) e)
