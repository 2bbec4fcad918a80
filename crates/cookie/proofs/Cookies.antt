-- What a test of the bytes from a place on says of the cookie there.
use Rattle.std.specs.Prelude.{ℕ, List, [], ◌∷◌, Bool, true, false, ◌≡◌, refl, ◌≤◌, ◌&&◌, eqb, length}
use Rattle.std.proofs.Common.{ap, ap₂, sym, ◌∙◌, arith, eq-eqb, ne_eqb, eqb-true, drop_of_length-le, slice_range}
use Rattle.std.proofs.lemmas.Bool.{eqb-false}
use Rattle.std.specs.List.{starts_with}
use Rattle.std.proofs.lemmas.Slice.{between_to_end}
use lib.Pointwise.{pointwise}
use Rattle.base.specs.Same.{same}
use Rattle.cookie.specs.Cookie.{cookie, cookie_at}

eqb-sym : (a b : ℕ) → eqb a b ≡ eqb b a
eqb-sym a b = go (eqb a b) refl
  where
    go : (q : Bool) → eqb a b ≡ q → q ≡ eqb b a
    go true e = sym (eq-eqb b a (sym (eqb-true a b e)))
    go false e = sym (ne_eqb b a (λ f. eqb-false a b e (sym f)))

pointwise_same : (s t : List ℕ) → pointwise eqb s t ≡ same t s
unfolding same
pointwise_same [] [] = refl
pointwise_same [] (b ∷ t) = refl
pointwise_same (a ∷ s) [] = refl
pointwise_same (a ∷ s) (b ∷ t) = ap₂ (λ (p q : Bool). p && q) (eqb-sym a b) (pointwise_same s t)

module _ (d : List ℕ) (at : ℕ) where
  pub here : {x : List ℕ} {r : Bool} → x ≡ slice_range d at (length d) → r ≡ starts_with eqb x cookie → r ≡ cookie_at d at
  unfolding cookie_at
  here e f = f ∙ ap (λ (y : List ℕ). starts_with eqb y cookie) (e ∙ between_to_end d at (length d) (omega arith)) ∙ pointwise_same cookie _

  pub nowhere : length d ≤ at → false ≡ cookie_at d at
  unfolding cookie_at same
  nowhere h = rw (drop_of_length-le d {i = at} h)
