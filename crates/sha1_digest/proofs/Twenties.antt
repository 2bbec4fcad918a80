-- The rounds, twenty at a time.
use Rattle.std.proofs.Common.{◌≡◌, ℕ, zero, suc, ◌+◌, ◌-◌, ◌%◌, ◌<◌, ◌≤◌, List, get_or, take, drop, inl, inr, sym, refl, ap, ◌∙◌, arith, le-ltb, lt-ltb}
use Rattle.std.specs.Prelude.{nat_lt}
use Rattle.std.proofs.lemmas.Bool.{cases_lt}
use Rattle.std.proofs.lemmas.List.{get_or-take, get_or-drop}
use Rattle.sha1_digest.specs.declared.compression.State.{State}
use Rattle.sha1_digest.specs.Compression.{mix_of, constant_of, round_by, round, rounds, compress, schedule, sum}

-- i of the twenty rounds from `from` on are done
pub record Turning (w : List ℕ) (from : ℕ) (h s : State) (i : ℕ) : Type 0 where
  pub high : i ≤ 20
  pub left : rounds w (from + i) (20 - i) s ≡ rounds w from 20 h

pub turning_start : (w : List ℕ) (from : ℕ) (h : State) → Turning w from h h 0
turning_start w from h = let e : from + 0 ≡ from = omega arith in record { high = omega arith; left = rw e }

same_side : (from i n : ℕ) → from % 20 ≡ 0 → n % 20 ≡ 0 → i < 20 → nat_lt (from + i) n ≡ nat_lt from n
same_side from i n e d h = elim (cases_lt from n) [
  | inl p ↦ lt-ltb (from + i) n (omega arith) ∙ sym (lt-ltb from n p)
  | inr p ↦ le-ltb (from + i) n (omega arith) ∙ sym (le-ltb from n p)
]

-- a turn: the round's function and constant are those of the first of the twenty
pub turn : {w : List ℕ} {from i f k : ℕ} {h s r : State} → Turning w from h s i → i < 20 → from % 20 ≡ 0
    → f ≡ mix_of from s.b s.c s.d → k ≡ constant_of from → r ≡ round_by f k (get_or (take (from + 20 - from) (drop from w)) i 0) s → Turning w from h r (i + 1)
unfolding rounds round mix_of constant_of
turn {w} {from} {i} {f} {k} {h} {s} {r} g l m e c q =
    let d : 20 - i ≡ suc (20 - (i + 1)) = omega arith in
    let p : from + (i + 1) ≡ suc (from + i) = omega arith in
    let x : get_or (take (from + 20 - from) (drop from w)) i 0 ≡ get_or w (from + i) 0 =
    get_or-take (from + 20 - from) (drop from w) i 0 (omega arith) ∙ get_or-drop from w i 0 in
    let turned : r ≡ round (from + i) (get_or w (from + i) 0) s =
    q ∙ rw (e, c, x, same_side from i 20 m refl l, same_side from i 40 m refl l, same_side from i 60 m refl l) in
    record { high = omega arith; left = rw (p, turned) (sym (ap (λ (n : ℕ). rounds w (from + i) n s) d) ∙ g.left) }

pub turning_done : {w : List ℕ} {from i : ℕ} {h s : State} → Turning w from h s i → 20 ≤ i → s ≡ rounds w from 20 h
unfolding rounds
turning_done {w} {from} {i} {h} {s} g k = let e : 20 - i ≡ 0 = omega arith in sym (ap (λ (n : ℕ). rounds w (from + i) n s) e) ∙ g.left

-- some rounds, and then others
rounds_add : (w : List ℕ) (t m n : ℕ) (s : State) → rounds w t (m + n) s ≡ rounds w (t + m) n (rounds w t m s)
unfolding rounds
rounds_add w t zero n s =
    let e : t ≡ t + 0 = omega arith in
    let z : 0 + n ≡ n = omega arith in
    ap (λ (k : ℕ). rounds w t k s) z ∙ ap (λ (k : ℕ). rounds w k n s) e
rounds_add w t (suc m) n s =
    let e : suc t + m ≡ t + suc m = omega arith in
    let z : suc m + n ≡ suc (m + n) = omega arith in
    let next = round t (get_or w t 0) s in
    ap (λ (k : ℕ). rounds w t k s) z ∙ rounds_add w (suc t) m n next ∙ ap (λ (k : ℕ). rounds w k n (rounds w (suc t) m next)) e

-- the four twenties make a block's hash value
pub compressed : (b : List ℕ) (h : State) {w : List ℕ} {s₁ s₂ s₃ s₄ r : State} → w ≡ schedule b 80
    → s₁ ≡ rounds w 0 20 h → s₂ ≡ rounds w 20 20 s₁ → s₃ ≡ rounds w 40 20 s₂ → s₄ ≡ rounds w 60 20 s₃ → r ≡ sum s₄ h → r ≡ compress b h
unfolding compress
compressed b h {w} {s₁} {s₂} {s₃} {s₄} {r} e e₁ e₂ e₃ e₄ d =
    let p₂ : s₂ ≡ rounds w 0 40 h = e₂ ∙ ap (rounds w 20 20) e₁ ∙ sym (rounds_add w 0 20 20 h) in
    let p₃ : s₃ ≡ rounds w 0 60 h = e₃ ∙ ap (rounds w 40 20) p₂ ∙ sym (rounds_add w 0 40 20 h) in
    let p₄ : s₄ ≡ rounds w 0 80 h = e₄ ∙ ap (rounds w 60 20) p₃ ∙ sym (rounds_add w 0 60 20 h) in
    d ∙ ap (λ (s : State). sum s h) (p₄ ∙ ap (λ (v : List ℕ). rounds v 0 80 h) e)
