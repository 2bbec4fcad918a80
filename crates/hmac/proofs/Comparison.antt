-- Two digests compared over all their bytes: what differs is gathered, and is nought at the end only if nothing differed.
use Rattle.std.proofs.Common.{◌≡◌, ℕ, suc, Bool, true, false, ◌&&◌, List, [], ◌∷◌, length, eqb, ◌⊎◌, inl, inr, refl, sym, ap, ◌∙◌, arith, eqb-true, eq-eqb, ne_eqb, bit_or, bit_xor}
use Rattle.std.proofs.lemmas.List.{nil_from_length}
use Rattle.std.proofs.lemmas.Bool.{eqb-false}
use Rattle.std.specs.Int.Bits.{or_zero_l, or_add_and, xor_self}
use Rattle.std.proofs.lemmas.Nat.{and_le_l, and_le_r}
use Rattle.base.specs.XorLaws.{xor_eq}
use Rattle.base.specs.SameLaws.{same_eq}
use Rattle.base.specs.Same.{same}

-- nought gathered: nothing before and nothing now
or_nought_l : (x y : ℕ) → bit_or x y ≡ 0 → x ≡ 0
or_nought_l x y e = omega (arith, or_add_and x y, and_le_r x y)

or_nought_r : (x y : ℕ) → bit_or x y ≡ 0 → y ≡ 0
or_nought_r x y e = omega (arith, or_add_and x y, and_le_l x y)

gathered : (x p q : ℕ) → eqb (bit_or x (bit_xor p q)) 0 ≡ eqb x 0 && eqb p q
gathered x p q = by_both (eqb x 0) (eqb p q) refl refl
  where
    by_both : (a b : Bool) → eqb x 0 ≡ a → eqb p q ≡ b → eqb (bit_or x (bit_xor p q)) 0 ≡ a && b
    by_both true true h k =
        let d : p ≡ q = eqb-true p q k in
        eq-eqb (bit_or x (bit_xor p q)) 0 (rw (eqb-true x 0 h, d, xor_self, or_zero_l))
    by_both true false h k = ne_eqb (bit_or x (bit_xor p q)) 0 (λ z. eqb-false p q k (xor_eq p q (or_nought_r x (bit_xor p q) z)))
    by_both false b h k = ne_eqb (bit_or x (bit_xor p q)) 0 (λ z. eqb-false x 0 h (or_nought_l x (bit_xor p q) z))

and_assoc : (a b c : Bool) → (a && b) && c ≡ a && (b && c)
and_assoc true b c = refl
and_assoc false b c = refl

and_true : (a : Bool) → a && true ≡ a
and_true true = refl
and_true false = refl

same_cons : (x y : ℕ) (s t : List ℕ) → same (x ∷ s) (y ∷ t) ≡ eqb x y && same s t
unfolding same
same_cons x y s t = refl

-- x gathers what differs before s and t
pub record Comparing (a b : List ℕ) (x : ℕ) (s t : List ℕ) : Type 0 where
  pub sizes : length s ≡ length t
  pub left : eqb x 0 && same s t ≡ same a b

pub comparing_start : (a b : List ℕ) → length a ≡ length b → Comparing a b 0 a b
comparing_start a b e = record { sizes = e; left = refl }

pub comparing_turn : {a b s t u v : List ℕ} {x p q : ℕ} → Comparing a b x s t → s ≡ p ∷ u → t ≡ q ∷ v → Comparing a b (bit_or x (bit_xor p q)) u v
comparing_turn {a} {b} {s} {t} {u} {v} {x} {p} {q} g d e =
    let step : same s t ≡ eqb p q && same u v = rw (d, e) (same_cons p q u v) in
    let l : suc (length u) ≡ suc (length v) = sym (ap length d) ∙ g.sizes ∙ ap length e in
    record {
      sizes = omega (arith, l);
      left = rw (gathered x p q, and_assoc (eqb x 0) (eqb p q) (same u v)) (ap (λ (c : Bool). eqb x 0 && c) (sym step) ∙ g.left);
    }

pub comparing_done : {a b s t : List ℕ} {x : ℕ} → Comparing a b x s t → (s ≡ []) ⊎ (t ≡ []) → eqb x 0 ≡ same a b
unfolding same
comparing_done {a} {b} {s} {t} {x} g h =
    let n : length s ≡ 0 = elim h [ inl e ↦ ap length e | inr e ↦ g.sizes ∙ ap length e ] in
    let d : s ≡ [] = nil_from_length s n in
    let e : t ≡ [] = nil_from_length t (sym g.sizes ∙ n) in
    sym (and_true (eqb x 0)) ∙ (rw (d, e) at g.left)

-- lists of two sizes differ
pub sizes_differ : (a b : List ℕ) → length a ≡ 20 → (length b ≡ 20 → ⊥) → false ≡ same a b
sizes_differ a b e d = unlike (same a b) refl
  where
    unlike : (c : Bool) → same a b ≡ c → false ≡ c
    unlike false h = refl
    unlike true h = absurd (d (ap length (sym (same_eq a b h)) ∙ e))
