-- The attributes of a body cover it, and the walk visits just those.
use Rattle.std.specs.Prelude.{ℕ, zero, suc, ◌+◌, ◌-◌, ◌*◌, ◌≤◌, ◌<◌, List, [], ◌∷◌, ◌++◌, ◌≡◌, refl, length, take, drop, leb}
use Rattle.std.proofs.Common.{sym, ap, ap₂, ◌∙◌, subst, arith, length-append, length-drop, length-take-le}
use Rattle.std.proofs.Math.Decide.{dec_lt}
use borrow.Author.Tests.{eq-eqb, le-ltb, le-leb, lt-leb}
use Rattle.base.specs.Choice.{pick}
use Rattle.big_endian.specs.Numbers.{be16}
use Rattle.header.specs.Header.{header_fault}
use Rattle.header.specs.HeaderLaws as header
use Rattle.attribute.specs.Attribute.{padded, Attr, Body, stop, more, attrs, rest, attr_of, parse, bytes_of, all_bytes}
use Rattle.attribute.specs.Walk.{step_at, walk_at}
use Rattle.attribute.specs.Visits.{found, Visits, over, meets, placed, sizes}
use Rattle.attribute.specs.WalkLaws.{At, beyond, ended, short, long, attribute, view, at_step, ahead}
use Rattle.attribute.proofs.BodyLaws.{body_of, unroll}
use Rattle.attribute.proofs.ScanLaws.{found_length}
use Rattle.attribute.specs.declared.Walk.{Walk}

size_case : (a b c e : ℕ) (r : List ℕ) (x : Body) → sizes (attrs x) + length (rest x) ≡ length r - padded (c * 256 + e)
    → Dec (length r < padded (c * 256 + e))
    → (y : Body) → y ≡ pick (leb (padded (c * 256 + e)) (length r)) (more (attr_of (a * 256 + b) (c * 256 + e) r) x) (stop (a ∷ b ∷ c ∷ e ∷ r))
    → sizes (attrs y) + length (rest y) ≡ 4 + length r
size_case a b c e r x q (yes l) y f = rw (f, lt-leb (padded (c * 256 + e)) (length r) l) (omega arith)
size_case a b c e r x q (no l) y f =
    let m : padded (c * 256 + e) ≤ length r = omega arith in
    let z : length (take (c * 256 + e) r) ≡ c * 256 + e = length-take-le (c * 256 + e) r (omega arith) in
    rw (f, le-leb (padded (c * 256 + e)) (length r) m, z) (omega arith)

-- the attributes and the rest are all the bytes
pub sizes_rest : (k : ℕ) (s : List ℕ) → sizes (attrs (parse k s)) + length (rest (parse k s)) ≡ length s - k
unfolding parse
sizes_rest (suc k) [] = omega arith
sizes_rest (suc k) (a ∷ r) = omega (arith, sizes_rest k r)
sizes_rest zero [] = refl
sizes_rest zero (a ∷ []) = refl
sizes_rest zero (a ∷ b ∷ []) = refl
sizes_rest zero (a ∷ b ∷ c ∷ []) = refl
sizes_rest zero (a ∷ b ∷ c ∷ e ∷ r) =
    omega (arith, size_case a b c e r (parse (padded (c * 256 + e)) r) (sizes_rest (padded (c * 256 + e)) r) (dec_lt _ _) _ refl)

pub sizes_least : (xs : List Attr) → 4 * length xs ≤ sizes xs
sizes_least [] = omega arith
sizes_least (a ∷ xs) = omega (arith, sizes_least xs)

pub placed_one : (p : ℕ) (xs : List Attr) (a : Attr) → placed p (xs ++ (a ∷ [])) ≡ placed p xs ++ ((p + length (all_bytes xs), a) ∷ [])
placed_one p [] a = let e : p ≡ p + 0 = omega arith in ap (λ (q : ℕ). (q, a) ∷ []) e
placed_one p (b ∷ xs) a =
    let e : p + length (bytes_of b) + length (all_bytes xs) ≡ p + length (bytes_of b ++ all_bytes xs) = simp length-append (omega arith) in
    ap (λ (s : List (ℕ × Attr)). (p, b) ∷ s)
    (placed_one (p + length (bytes_of b)) xs a ∙ ap (λ (q : ℕ). placed (p + length (bytes_of b)) xs ++ ((q, a) ∷ [])) e)

module _ (d : List ℕ) (e : header_fault d ≡ 0) where
  pub walk_is_step : (p : ℕ) → 20 ≤ p → walk_at d p ≡ step_at d p
  unfolding walk_at
  walk_is_step p l = simp (eq-eqb (header_fault d) 0 e, le-ltb p 20 l)

  -- nothing is left: the walk is at its end
  at_end : (p : ℕ) (r : List ℕ) {w : Walk} → At d p w → 20 ≤ p → p ≤ length d → body_of d w ≡ stop r → r ≡ [] → Visits d p []
  at_end p r (beyond h) i l f g = absurd (omega arith)
  at_end p r (ended h) i l f g = over (walk_is_step p i ∙ sym (at_step (ended h)))
  at_end p r (short h k) i l f g = let z : drop p d ≡ [] = cc in absurd (omega (arith, simp length-drop at (ap length z)))
  at_end p r (long h k) i l f g = let z : drop p d ≡ [] = cc in absurd (omega (arith, simp length-drop at (ap length z)))
  at_end p r (attribute h) i l f g = let z : ◌≡◌ {A = ℕ} 0 1 = cc in absurd (omega arith)

  -- there is an attribute: the walk is at it, and goes on to the others
  at_attribute : (p : ℕ) (a : Attr) (b : Body) {w : Walk} → At d p w → 20 ≤ p → body_of d w ≡ more a b
      → ((x : ℕ) → 20 ≤ x → x ≤ length d → parse 0 (drop x d) ≡ b → Visits d x (placed x (attrs b))) → Visits d p (placed p (a ∷ attrs b))
  at_attribute p a b (beyond h) i f on = let z : ◌≡◌ {A = ℕ} 0 1 = cc in absurd (omega arith)
  at_attribute p a b (ended h) i f on = let z : ◌≡◌ {A = ℕ} 0 1 = cc in absurd (omega arith)
  at_attribute p a b (short h k) i f on = let z : ◌≡◌ {A = ℕ} 0 1 = cc in absurd (omega arith)
  at_attribute p a b (long h k) i f on = let z : ◌≡◌ {A = ℕ} 0 1 = cc in absurd (omega arith)
  at_attribute p a b (attribute h) i f on =
      let n : ℕ = be16 d (p + 2) in
      let x : ℕ = p + 4 + padded n in
      let q : parse 0 (drop x d) ≡ b = cc in
      let y : found d (be16 d p) (p + 4) n x ≡ a = cc in
      let z : x ≡ p + length (bytes_of a) = sym (found_length (be16 d p) (ahead (attribute h))) ∙ ap (λ (c : Attr). p + length (bytes_of c)) y in
      subst (λ (c : Attr). Visits d p ((p, c) ∷ placed (p + length (bytes_of a)) (attrs b))) y
      (meets (walk_is_step p i ∙ sym (at_step (attribute h)))
      (subst (λ (u : ℕ). Visits d x (placed u (attrs b))) z (on x (omega arith) h q)))

  from_place : (p : ℕ) (b : Body) → 20 ≤ p → p ≤ length d → parse 0 (drop p d) ≡ b → rest b ≡ [] → Visits d p (placed p (attrs b))
  from_place p (stop r) i l f g = at_end p r (view d p) i l (sym (unroll (view d p)) ∙ f) g
  from_place p (more a b) i l f g =
      at_attribute p a b (view d p) i (sym (unroll (view d p)) ∙ f) (λ x j m q. from_place x b j m q g)

  pub visits : rest (parse 0 (drop 20 d)) ≡ [] → Visits d 20 (placed 20 (attrs (parse 0 (drop 20 d))))
  visits g = from_place 20 (parse 0 (drop 20 d)) (omega arith) (header.long d e) refl g

-- and no others
pub visits_one : {d : List ℕ} {p : ℕ} {xs ys : List (ℕ × Attr)} → Visits d p xs → Visits d p ys → xs ≡ ys
visits_one (over e) (over f) = refl
visits_one (over e) (meets f w) = let z : ◌≡◌ {A = ℕ} 0 1 = cc in absurd (omega arith)
visits_one (meets e v) (over f) = let z : ◌≡◌ {A = ℕ} 0 1 = cc in absurd (omega arith)
visits_one {d} {p} (meets {k = k} {v = u} {n = n} {x = x} e v) (meets {k = l} {v = t} {n = m} {x = y} {xs = zs} f w) =
    let i : y ≡ x = cc in
    let j : found d k u n x ≡ found d l t m y = cc in
    ap₂ {C = List (ℕ × Attr)} (λ a s. (p, a) ∷ s) j (visits_one v (subst (λ (z : ℕ). Visits d z zs) i w))
