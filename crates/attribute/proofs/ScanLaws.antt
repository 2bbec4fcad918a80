-- The loop that judges attributes: what holds at a place, and how a step carries it on. Stated once, over the fault.
use Rattle.std.specs.Prelude.{ℕ, ◌+◌, ◌-◌, ◌≤◌, ◌<◌, List, [], ◌∷◌, ◌≡◌, refl, length, take, drop, Ok}
use Rattle.std.proofs.Math.Path.{sym, ap}
use Rattle.std.proofs.Common.{◌∙◌, arith, eq-eqb, ne_eqb, length-append, length-take, length-drop}
use Rattle.attribute.specs.Attribute.{Attr, stop, more, bytes_of, parse}
use Rattle.attribute.specs.Walk.{step_at}
use Rattle.attribute.specs.Visits.{found}
use Rattle.attribute.specs.WalkLaws.{ended, Ahead, ahead, Stops, seen}
use Rattle.attribute.proofs.BodyLaws.{unroll, body_seen, stopped}
use Rattle.attribute.specs.Scan.{Scan, at_fault, scan, scanned}
use Rattle.attribute.specs.Scanning.{Scanning}
use Rattle.attribute.specs.declared.Walk.{Walk}
use Rattle.attribute.specs.declared.Walk.TheVariants.{Attribute}

pub start : (f : ℕ → Attr → ℕ) (d : List ℕ) → 20 ≤ length d → Scanning f d 20 0 (scanned f d)
unfolding scanned
start f d h = record { low = omega arith; inside = h; few = omega arith; same = refl }

-- a found attribute has as many bytes as the walk goes on
pub found_length : (k : ℕ) {d : List ℕ} {p q v n x : ℕ} → Ahead d p q v n x → p + length (bytes_of (found d k v n x)) ≡ x
found_length k {d} {p} {q} {v} {n} {x} a =
    let i : length (take n (drop v d)) ≡ n = simp (length-take, length-drop) (omega (arith, a)) in
    let j : length (take (x - v - n) (drop (v + n) d)) ≡ x - v - n = simp (length-take, length-drop) (omega (arith, a)) in
    simp length-append (omega (arith, i, j, a))

module _ {f : ℕ → Attr → ℕ} {d : List ℕ} {at n q k v s x : ℕ} {t : Scan} {w : Walk} (g : Scanning f d at n t) (i : w ≡ Attribute q k v s x)
    (e : w ≡ step_at d at) where
  pub inside : Ahead d at q v s x
  inside = ahead (seen (sym i ∙ e))

  pub within : v + s ≤ length d
  within = omega (arith, inside)

  pub less : length d - x < length d - at
  less = omega (arith, inside)

  here : scan f n at (parse 0 (drop at d)) ≡ scan f n at (more (found d k v s x) (parse 0 (drop x d)))
  here = ap (scan f n at) (body_seen d at (sym i ∙ e))

  pub turn : f at (found d k v s x) ≡ 0 → Scanning f d x (n + 1) t
  unfolding scan
  turn z = record {
    low = omega (arith, g.low, inside);
    inside = inside.within;
    few = omega (arith, g.few, inside);
    same =
        ap (λ (y : ℕ). scan f (n + 1) y (parse 0 (drop x d))) (sym (found_length k inside))
        ∙ sym (here ∙ simp (eq-eqb (f at (found d k v s x)) 0 z)) ∙ g.same;
  }

  pub faulty : (f at (found d k v s x) ≡ 0 → ⊥) → at_fault (f at (found d k v s x)) at ≡ t
  unfolding scan
  faulty z = sym (here ∙ simp (ne_eqb (f at (found d k v s x)) 0 z)) ∙ g.same

  -- the same by a fault that code has found
  module _ {r : ℕ} (z : r ≡ f at (found d k v s x)) where
    pub on : r ≡ 0 → Scanning f d x (n + 1) t
    on y = turn (sym z ∙ y)

    pub decides : (r ≡ 0 → ⊥) → at_fault r at ≡ t
    decides y = ap (λ (m : ℕ). at_fault m at) z ∙ faulty (λ u. y (z ∙ u))

-- where the walk stops: at the end all have passed, and before it 10 is found
pub passed : {f : ℕ → Attr → ℕ} {d : List ℕ} {at n : ℕ} {t : Scan} → Scanning f d at n t → at ≡ length d → Ok n ≡ t
unfolding scan
passed {f} {d} {at} {n} g e = sym (ap (scan f n at) (unroll (ended e))) ∙ g.same

cut_scan : (f : ℕ → Attr → ℕ) (n p : ℕ) (r : List ℕ) → 0 < length r → scan f n p (stop r) ≡ at_fault 10 p
unfolding scan
cut_scan f n p [] h = absurd (omega arith)
cut_scan f n p (b ∷ r) h = refl

pub cut : {f : ℕ → Attr → ℕ} {d : List ℕ} {at n : ℕ} {t : Scan} {w : Walk}
    → Scanning f d at n t → Stops w → w ≡ step_at d at → (at ≡ length d → ⊥) → at_fault 10 at ≡ t
cut {f} {d} {at} {n} g s e h =
    let l : 0 < length (drop at d) = simp length-drop (omega (arith, g.inside)) in
    sym (ap (scan f n at) (stopped d at s e) ∙ cut_scan f n at (drop at d) l) ∙ g.same
