-- The search for a type: what holds at a place, and how a step carries it on.
use Rattle.std.specs.Prelude.{ℕ, ◌-◌, ◌<◌, List, ◌∷◌, ◌≡◌, refl, length, take, drop, Option, Some, None}
use Rattle.std.proofs.Common.{sym, ap, ◌∙◌, arith, eq-eqb, ne_eqb, length-take, length-drop}
use Rattle.attribute.specs.Attribute.{Body, attrs, parse}
use Rattle.attribute.specs.Walk.{step_at}
use Rattle.attribute.specs.WalkLaws.{Ahead, ahead, Stops, seen}
use Rattle.attribute.proofs.BodyLaws.{body_seen, stopped}
use Rattle.attribute.specs.Visits as visits
use Rattle.attribute.proofs.ScanLaws.{found_length}
use Rattle.attribute.specs.declared.Walk.{Walk}
use Rattle.attribute.specs.declared.Walk.TheVariants.{Attribute}
use Rattle.read_first.specs.declared.Found.{Found}
use Rattle.read_first.specs.First.{Place, starts, first_from, first_in, placed}

abbrev told : ℕ → ℕ → Option Found
told p n = Some (record { at = p; size = n })

abbrev from : List ℕ → ℕ → ℕ → Place
from d k p = first_from k p (attrs (parse 0 (drop p d)))

pub record Searching (d : List ℕ) (k at : ℕ) : Type 0 where
  pub same : from d k at ≡ first_in k d

pub start : (d : List ℕ) (k : ℕ) → Searching d k 20
unfolding first_in
start d k = record { same = refl }

module _ {d : List ℕ} {k at q j v n x : ℕ} {w : Walk} (g : Searching d k at) (f : w ≡ Attribute q j v n x) (e : w ≡ step_at d at) where
  inside : Ahead d at q v n x
  inside = ahead (seen (sym f ∙ e))

  pub less : length d - x < length d - at
  less = omega (arith, inside)

  here : from d k at ≡ first_from k at (visits.found d j v n x ∷ attrs (parse 0 (drop x d)))
  here = ap (λ (y : Body). first_from k at (attrs y)) (body_seen d at (sym f ∙ e))

  pub turn : (j ≡ k → ⊥) → Searching d k x
  unfolding first_from
  turn ne = record {
    same =
        ap (λ (y : ℕ). first_from k y (attrs (parse 0 (drop x d)))) (sym (found_length j inside)) ∙ sym (here ∙ simp (ne_eqb j k ne)) ∙ g.same;
  }

  pub found : j ≡ k → told at n ≡ placed (first_in k d)
  unfolding first_from placed
  found i =
      let s : length (take n (drop v d)) ≡ n = simp (length-take, length-drop) (omega (arith, inside)) in
      let t : from d k at ≡ starts at (visits.found d j v n x) = here ∙ simp (eq-eqb j k i) in
      ap (λ (m : ℕ). told at m) (sym s) ∙ ap placed (sym t ∙ g.same)

-- the step is no attribute
pub none_left : {d : List ℕ} {k at : ℕ} {w : Walk} → Stops w → Searching d k at → w ≡ step_at d at → None ≡ placed (first_in k d)
unfolding first_from placed
none_left {d} {k} {at} s g e = ap placed (sym (ap (λ (y : Body). first_from k at (attrs y)) (stopped d at s e)) ∙ g.same)
