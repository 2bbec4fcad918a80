-- What judging comes to, and its number.
use Rattle.std.specs.Prelude.{ℕ, Bool, true, false, ◌≡◌, refl, eqb, Result, Ok, Err, is_err}
use Rattle.std.proofs.Common.{sym, ap, ◌∙◌, arith, ne_eqb, eqb-true}
use borrow.Author.Tests.{eqb-false}
use Rattle.base.specs.Choice.{pick}
use Rattle.wire.specs.Refusal.{by, refused_by, number_of}
use Rattle.wire.specs.declared.refusal.Refusal.{Refusal}

-- a number that is not nought refuses
pub refused_some : (n : ℕ) → (n ≡ 0 → ⊥) → refused_by n ≡ Err (by n)
unfolding refused_by
refused_some n h = simp (ne_eqb n 0 h)

-- what passes has the number nought, and what is refused its own
pub passes : (n : ℕ) {u : Unit {0}} → refused_by n ≡ Ok u → n ≡ 0
unfolding refused_by
passes n {u} e = go (eqb n 0) refl e
  where
    go : (b : Bool) → eqb n 0 ≡ b → ◌≡◌ {A = Result Unit Refusal} (pick b (Ok tt) (Err (by n))) (Ok u) → n ≡ 0
    go true p q = eqb-true n 0 p
    go false p q = let z : ◌≡◌ {A = ℕ} 0 1 = cc in absurd (omega arith)

pub record Refuses (n : ℕ) (r : Refusal) : Type 0 where
  pub refusal : r ≡ by n
  pub some : n ≡ 0 → ⊥

pub refuses : (n : ℕ) {r : Refusal} → refused_by n ≡ Err r → Refuses n r
unfolding refused_by
refuses n {r} e = go (eqb n 0) refl e
  where
    go : (b : Bool) → eqb n 0 ≡ b → ◌≡◌ {A = Result Unit Refusal} (pick b (Ok tt) (Err (by n))) (Err r) → Refuses n r
    go true p q = let z : ◌≡◌ {A = ℕ} 0 1 = cc in absurd (omega arith)
    go false p q = record { refusal = cc; some = eqb-false n 0 p }

pub fails : (n : ℕ) → is_err (refused_by n) ≡ true → n ≡ 0 → ⊥
unfolding refused_by
fails n e z = let y : ◌≡◌ {A = Bool} false true = ap (λ (m : ℕ). is_err (refused_by m)) (sym z) ∙ e in absurd cc

pub stands : (n : ℕ) → is_err (refused_by n) ≡ false → n ≡ 0
unfolding refused_by
stands n e = go (eqb n 0) refl e
  where
    go : (b : Bool) → eqb n 0 ≡ b → is_err (pick {A = Result Unit Refusal} b (Ok tt) (Err (by n))) ≡ false → n ≡ 0
    go true p q = eqb-true n 0 p
    go false p q = let y : ◌≡◌ {A = Bool} true false = q in absurd cc

pub number_back : (n : ℕ) → number_of (refused_by n) ≡ n
unfolding refused_by
number_back n = go (eqb n 0) refl
  where
    go : (b : Bool) → eqb n 0 ≡ b → number_of (pick b (Ok tt) (Err (by n))) ≡ n
    go true p = sym (eqb-true n 0 p)
    go false p = refl
