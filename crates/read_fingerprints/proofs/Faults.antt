-- What `print_fault` returns, case by case.
use Rattle.std.proofs.Common.{ℕ, ◌+◌, ◌≤◌, ◌<◌, List, Bool, true, false, ◌≡◌, refl, sym, ap, ap₂, ◌∙◌, arith, eqb, eq-eqb, ne_eqb, eqb-true, length, get_or, take, drop, length-take, length-drop}
use Rattle.std.proofs.lemmas.Bool.{eqb-false}
use Rattle.base.specs.Choice.{pick}
use Rattle.base.specs.SameLaws.{same_eq, same_refl}
use Rattle.base.specs.Same.{same}
use Rattle.big_endian.specs.Numbers.{be32, four}
use Rattle.big_endian.specs.NumbersLaws.{be32_bytes, bytes_be32}
use Rattle.wire.specs.Refusal.{by}
use Rattle.fingerprint.specs.Fingerprint.{printed}
use Rattle.read_fingerprints.specs.Fingerprints.{print_fault}

-- lists that differ are not the same
differs : (s t : List ℕ) → (s ≡ t → ⊥) → same s t ≡ false
differs s t n = go (same s t) refl
  where
    go : (b : Bool) → same s t ≡ b → b ≡ false
    go false e = refl
    go true e = absurd (n (same_eq s t e))

module _ (d : List ℕ) (p k : ℕ) where
  pub other : (v : List ℕ) → (k ≡ 0x8028 → ⊥) → 0 ≡ print_fault d p k v
  unfolding print_fault
  other v h = simp (ne_eqb k 0x8028 h)

  module _ (e : k ≡ 0x8028) (n : ℕ) where
    by_value : {b : Bool} → b ≡ same (take n (drop (p + 4) d)) (four (printed d p)) → pick b 0 15 ≡ print_fault d p k (take n (drop (p + 4) d))
    unfolding print_fault
    by_value q = sym (simp (eq-eqb k 0x8028 e, q))

    pub sized : p + 4 + n ≤ length d → (n ≡ 4 → ⊥) → 15 ≡ print_fault d p k (take n (drop (p + 4) d))
    sized h o = by_value (sym (differs (take n (drop (p + 4) d)) (four (printed d p)) (λ q. o (sym size ∙ ap length q))))
      where
        size : length (take n (drop (p + 4) d)) ≡ n
        size = simp (length-take, length-drop) (omega arith)

-- the four bytes at a place, and a number
module _ (d : List ℕ) where
  pub is_there_lem : ((i : ℕ) → get_or d i 0 < 256) → (at : ℕ) {u : ℕ} (x : ℕ) → at + 4 ≤ length d → u ≡ be32 d at
      → eqb u x ≡ same (take 4 (drop at d)) (four x)
  is_there_lem bs at {u} x l f = go (eqb u x) refl
    where
      go : (b : Bool) → eqb u x ≡ b → b ≡ same (take 4 (drop at d)) (four x)
      go true q = sym (rw (be32_bytes d at l bs ∙ ap four (sym f ∙ eqb-true u x q)) (same_refl (four x)))
      go false q = sym (differs (take 4 (drop at d)) (four x) (λ w. eqb-false u x q (f ∙ bytes_be32 d at l x w)))

module _ (d : List ℕ) (p k n : ℕ) (e : k ≡ 0x8028) (o : n ≡ 4) {b : Bool} {x : ℕ}
    (f : b ≡ same (take 4 (drop (p + 4) d)) (four x)) (g : x ≡ printed d p) where
  judged : pick b 0 15 ≡ print_fault d p k (take n (drop (p + 4) d))
  judged = by_value d p k e n (f ∙ ap₂ (λ (m y : ℕ). same (take m (drop (p + 4) d)) (four y)) (sym o) g)

  pub right : b ≡ true → 0 ≡ print_fault d p k (take n (drop (p + 4) d))
  right c = sym (ap (λ (z : Bool). pick z 0 15) c) ∙ judged

  pub wrong : b ≡ false → 15 ≡ print_fault d p k (take n (drop (p + 4) d))
  wrong c = sym (ap (λ (z : Bool). pick z 0 15) c) ∙ judged

pub at_15 : {n : ℕ} → 15 ≡ n → (by 15 ≡ by n) × (n ≡ 0 → ⊥)
at_15 e = (ap by e, λ z. let y : ◌≡◌ {A = ℕ} 15 0 = e ∙ z in absurd (omega arith))
