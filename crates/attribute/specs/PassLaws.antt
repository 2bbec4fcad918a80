-- Attributes that all pass, each at its place, and the scan that says so.
use Rattle.std.specs.Prelude.{ℕ, ◌+◌, [], ◌∷◌, Bool, true, false, ◌≡◌, refl, length, eqb, Ok}
use Rattle.std.proofs.Common.{ap, ◌∙◌, arith, eq-eqb, eqb-true}
use borrow.Author.Tests.{eqb-false}
use Rattle.base.specs.Choice.{pick}
use Rattle.attribute.specs.Attribute.{Attr, Body, stop, more, attrs, rest, bytes_of}
use Rattle.attribute.specs.Scan.{Scan, at_fault, scan_said, scan, Pass}

-- what it means that the scan of b, behind n attributes, passed m
pub record AllPass (f : ℕ → Attr → ℕ) (n p : ℕ) (b : Body) (m : ℕ) : Type 0 where
  pub each : Pass f p (attrs b)
  pub covered : rest b ≡ []
  pub count : m ≡ n + length (attrs b)

module _ (f : ℕ → Attr → ℕ) where
  pub passed_all : (n p : ℕ) (b : Body) {m : ℕ} → scan f n p b ≡ Ok m → AllPass f n p b m
  unfolding scan
  passed_all n p (stop []) {m} e = record { each = tt; covered = refl; count = let q : m ≡ n = cc in omega arith }
  passed_all n p (stop (x ∷ r)) e = let z : ◌≡◌ {A = ℕ} 0 1 = cc in absurd (omega arith)
  passed_all n p (more a b) {m} e = go (eqb (f p a) 0) refl e (λ q. passed_all (n + 1) (p + length (bytes_of a)) b q)
    where
      go : (t : Bool) → eqb (f p a) 0 ≡ t → ◌≡◌ {A = Scan} (pick t (scan f (n + 1) (p + length (bytes_of a)) b) (at_fault (f p a) p)) (Ok m)
          → (scan f (n + 1) (p + length (bytes_of a)) b ≡ Ok m → AllPass f (n + 1) (p + length (bytes_of a)) b m)
          → AllPass f n p (more a b) m
      go true q g ih = let w = ih g in record { each = (eqb-true (f p a) 0 q, w.each); covered = w.covered; count = omega (arith, w.count) }
      go false q g ih = let z : ◌≡◌ {A = ℕ} 0 1 = cc in absurd (omega arith)

  pub all_passed : (n p : ℕ) (b : Body) {m : ℕ} → Pass f p (attrs b) → rest b ≡ [] → m ≡ n + length (attrs b) → scan f n p b ≡ Ok m
  unfolding scan
  all_passed n p (stop r) {m} h e q = let i : n ≡ m = omega arith in rw e (ap (λ (k : ℕ). Ok k) i)
  all_passed n p (more a b) h e q = simp (eq-eqb (f p a) 0 h.0) (all_passed (n + 1) (p + length (bytes_of a)) b h.1 e (omega arith))

  -- a fault is never nought
  pub fault_some : (n p : ℕ) (b : Body) {r q : ℕ} → scan f n p b ≡ at_fault r q → r ≡ 0 → ⊥
  unfolding scan scan_said
  fault_some n p (stop []) e z = let y : ◌≡◌ {A = ℕ} 0 1 = cc in omega arith
  fault_some n p (stop (x ∷ s)) {r} e z = let y : 10 ≡ r = ap (λ (s : Scan). (scan_said s).number) e in omega arith
  fault_some n p (more a b) {r} {q} e z = go (eqb (f p a) 0) refl e (λ g. fault_some (n + 1) (p + length (bytes_of a)) b g z)
    where
      go : (t : Bool) → eqb (f p a) 0 ≡ t → ◌≡◌ {A = Scan} (pick t (scan f (n + 1) (p + length (bytes_of a)) b) (at_fault (f p a) p)) (at_fault r q)
          → (scan f (n + 1) (p + length (bytes_of a)) b ≡ at_fault r q → ⊥) → ⊥
      go true i g ih = ih g
      go false i g ih = let y : f p a ≡ r = ap (λ (s : Scan). (scan_said s).number) g in eqb-false (f p a) 0 i (y ∙ z)
