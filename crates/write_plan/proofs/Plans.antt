-- What `plan_for` returns, as the code finds its numbers.
use Rattle.std.specs.Prelude.{ℕ, ◌+◌, ◌-◌, ◌%◌, ◌≤◌, ◌<◌, List, Bool, true, false, ◌≡◌, refl, length, eqb, Result, Ok, Err}
use Rattle.std.proofs.Common.{sym, ◌∙◌, ap, arith, eqb-true}
use borrow.Author.Tests.{eqb-false}
use Rattle.base.specs.Choice.{pick}
use Rattle.big_endian.specs.Numbers.{be16}
use Rattle.wire.specs.Refusal.{by, refused_by}
use Rattle.wire.proofs.RefusalLaws.{passes, refuses}
use Rattle.wire.specs.declared.refusal.Refusal.{Refusal}
use Rattle.attribute.specs.Attribute.{padded}
use Rattle.write_plan.specs.Plan.{message_fault, body_at, body_with, plan_of}
use Rattle.write_plan.proofs.PlanLaws.{no_message, wrong, padding, long, small, goes, plan_is}

-- what is known where the front has a message, and where it has none
record There (d : List ℕ) (b : ℕ) : Type 0 where
  message : message_fault d ≡ 0
  body : b ≡ be16 d 2

there : (d : List ℕ) {b : ℕ} → body_at d ≡ Ok b → There d b
unfolding body_at
there d {b} e = go (eqb (message_fault d) 0) refl e
  where
    go : (q : Bool) → eqb (message_fault d) 0 ≡ q → ◌≡◌ {A = Result ℕ Refusal} (pick q (Ok (be16 d 2)) (Err (by 21))) (Ok b) → There d b
    go true p f = record { message = eqb-true (message_fault d) 0 p; body = cc }
    go false p f = let z : ◌≡◌ {A = ℕ} 0 1 = cc in absurd (omega arith)

record NotThere (d : List ℕ) (r : Refusal) : Type 0 where
  none : message_fault d ≡ 0 → ⊥
  refusal : r ≡ by 21

not_there : (d : List ℕ) {r : Refusal} → body_at d ≡ Err r → NotThere d r
unfolding body_at
not_there d {r} e = go (eqb (message_fault d) 0) refl e
  where
    go : (q : Bool) → eqb (message_fault d) 0 ≡ q → ◌≡◌ {A = Result ℕ Refusal} (pick q (Ok (be16 d 2)) (Err (by 21))) (Err r) → NotThere d r
    go true p f = let z : ◌≡◌ {A = ℕ} 0 1 = cc in absurd (omega arith)
    go false p f = record { none = eqb-false (message_fault d) 0 p; refusal = cc }

module _ (d : List ℕ) (f n m : ℕ) {x : Result ℕ Refusal} (e : x ≡ body_at d) where
  pub at_21 : {r : Refusal} → x ≡ Err r → Err r ≡ plan_of d f n m
  at_21 g = let t = not_there d (sym e ∙ g) in ap (λ (r : Refusal). Err r) t.refusal ∙ plan_is (no_message t.none)

  module _ {old : ℕ} (g : x ≡ Ok old) {y : Result Unit Refusal} (h : y ≡ refused_by f) where
    message : There d old
    message = there d (sym e ∙ g)

    pub at_23 : {r : Refusal} → y ≡ Err r → Err r ≡ plan_of d f n m
    at_23 i = let w = refuses f (sym h ∙ i) in ap (λ (r : Refusal). Err r) w.refusal ∙ plan_is (wrong message.message w.some)

    module _ {u : Unit} (i : y ≡ Ok u) where
      right : f ≡ 0
      right = passes f (sym h ∙ i)

      pub at_24 : (m ≡ (4 - n % 4) % 4 → ⊥) → Err (by 24) ≡ plan_of d f n m
      at_24 p = plan_is (padding message.message right (λ z. p (omega arith)))

      module _ (p : m ≡ (4 - n % 4) % 4) where
        pads : n + m ≡ padded n
        pads = omega arith

        pub at_25_alone : 65532 < n → Err (by 25) ≡ plan_of d f n m
        at_25_alone l = plan_is (long message.message right pads (omega arith))

        with_it : old + 4 + (n + m) ≡ body_with d n
        with_it = omega (arith, pads, message.body)

        pub at_25 : 65532 < old + 4 + (n + m) → Err (by 25) ≡ plan_of d f n m
        at_25 l = plan_is (long message.message right pads (omega (arith, with_it)))

        module _ (s : old + 4 + (n + m) ≤ 65532) where
          pub at_26 : length d < 20 + (old + 4 + (n + m)) → Err (by 26) ≡ plan_of d f n m
          at_26 l = plan_is (small message.message right pads (omega (arith, with_it)) (omega (arith, with_it)))

          pub plan_goes : 20 + (old + 4 + (n + m)) ≤ length d
              → Ok (record { at = 20 + old; body = old + 4 + (n + m); total = 20 + (old + 4 + (n + m)) }) ≡ plan_of d f n m
          plan_goes l =
              rw (with_it, message.body) (plan_is (goes message.message right pads (omega (arith, with_it)) (omega (arith, with_it))))
