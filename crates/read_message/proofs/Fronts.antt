-- The front in which no FINGERPRINT stands: what `past` returns, and how it goes on with the loop over the values.
use Prim.Native.Nat.{ℕ, ◌+◌, ◌<◌}
use mathlib.Core.List.{List}
use mathlib.Core.Bool.{Bool, true, false}
use mathlib.Core.Path.{◌≡◌, refl, sym, ◌∙◌, subst}
use native.Mathlib.Omega.{arith}
use borrow.Author.Tests.{eq-eqb, ne_eqb, eqb-true, eqb-false}
use lib.Dec.{eqb}
use Rattle.base.specs.Choice.{pick}
use Rattle.attribute.specs.Walk.{step_at}
use Rattle.attribute.specs.WalkLaws.{ahead, seen}
use Rattle.attribute.specs.Visits.{found}
use Rattle.attribute.proofs.ScanLaws.{turn}
use Rattle.attribute.specs.Scanning.{Scanning}
use Rattle.attribute.specs.Scan.{Scan}
use Rattle.attribute.specs.declared.Walk.{Walk}
use Rattle.attribute.specs.declared.Walk.TheVariants.{Attribute}
use Rattle.read_fingerprints.specs.Fingerprints.{print_fault, print_faults}
use Rattle.read_message.specs.Front.{past_of}
use Rattle.read_message.specs.declared.Front.{Front}

module _ (f : Front) (p k x : ℕ) where
  pub elsewhere : (f.at ≡ p → ⊥) → f ≡ past_of f p k x
  unfolding past_of
  elsewhere n = simp (ne_eqb f.at p n)

  module _ (e : f.at ≡ p) where
    pub stays : k ≡ 0x8028 → f ≡ past_of f p k x
    unfolding past_of
    stays h = simp (eq-eqb f.at p e, eq-eqb k 0x8028 h)

    pub goes_on : (k ≡ 0x8028 → ⊥) → record { at = x; count = f.count + 1 } ≡ past_of f p k x
    unfolding past_of
    goes_on h = simp (eq-eqb f.at p e, ne_eqb k 0x8028 h)

module _ (d : List ℕ) (at : ℕ) {q k v s x : ℕ} {w : Walk} (i : w ≡ Attribute q k v s x) (e : w ≡ step_at d at) where
  pub onward : at < x
  onward = omega (arith, ahead (seen (sym i ∙ e)))

  none : (k ≡ 0x8028 → ⊥) → print_faults d at (found d k v s x) ≡ 0
  unfolding print_faults print_fault
  none h = simp (ne_eqb k 0x8028 h)

  pub front_turn : (f : Front) {r : Front} {t : Scan} → Scanning (print_faults d) d f.at f.count t → r ≡ past_of f at k x
      → Scanning (print_faults d) d r.at r.count t
  unfolding past_of
  front_turn f {r} {t} g h =
      subst (λ (y : Front). Scanning (print_faults d) d y.at y.count t) (sym h) (go (eqb f.at at) (eqb k 0x8028) refl refl)
    where
      go : (a b : Bool) → eqb f.at at ≡ a → eqb k 0x8028 ≡ b
          → Scanning (print_faults d) d (pick {A = Front} a (pick b f (record { at = x; count = f.count + 1 })) f).at
          (pick {A = Front} a (pick b f (record { at = x; count = f.count + 1 })) f).count t
      go false b y z = g
      go true true y z = g
      go true false y z =
          turn (subst (λ (p : ℕ). Scanning (print_faults d) d p f.count t) (eqb-true f.at at y) g) i e (none (eqb-false k 0x8028 z))
