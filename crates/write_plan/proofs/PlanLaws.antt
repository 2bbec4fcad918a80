-- The cases of a plan, with the facts that go with each.
use Rattle.std.specs.Prelude.{ℕ, ◌+◌, ◌≤◌, ◌<◌, List, [], ◌∷◌, Bool, true, false, ◌≡◌, refl, length, take, drop, ltb, eqb, Result, Ok, Err}
use Rattle.std.proofs.Common.{sym, ap, ◌∙◌, subst, arith, lt-ltb, le-ltb, eq-eqb, ne_eqb, eqb-true, ltb-false}
use Rattle.std.proofs.Math.Decide.{dec_lt, ℕ_discrete}
use Rattle.base.specs.Choice.{pick}
use Rattle.wire.specs.Refusal.{by}
use Rattle.wire.specs.declared.refusal.Refusal.{Refusal}
use Rattle.header.specs.Header.{front_fault}
use Rattle.attribute.specs.Attribute.{padded, rest, parse}
use Rattle.write_plan.specs.Plan.{none, covers, size_of, message_fault, body_with, plan_of}
use Rattle.write_plan.specs.declared.Room.{Room}

-- a message that an attribute can be put behind
pub record Message (d : List ℕ) : Type 0 where
  pub front : front_fault d ≡ 0
  pub inside : size_of d ≤ length d
  pub covered : rest (parse 0 (drop 20 (take (size_of d) d))) ≡ []

none_nil : (l : List ℕ) → none l ≡ true → l ≡ []
none_nil [] e = refl
none_nil (a ∷ l) e = let z : ◌≡◌ {A = ℕ} 0 1 = cc in absurd (omega arith)

pub message : (d : List ℕ) → message_fault d ≡ 0 → Message d
unfolding message_fault covers
message d e = go (eqb (front_fault d) 0) (ltb (length d) (size_of d)) (none (rest (parse 0 (drop 20 (take (size_of d) d))))) refl refl refl e
  where
    go : (a b c : Bool) → eqb (front_fault d) 0 ≡ a → ltb (length d) (size_of d) ≡ b → none (rest (parse 0 (drop 20 (take (size_of d) d)))) ≡ c
        → ◌≡◌ {A = ℕ} (pick a (pick b 21 (pick c 0 21)) 21) 0 → Message d
    go true false true p q r f = record { front = eqb-true (front_fault d) 0 p; inside = ltb-false (length d) (size_of d) q; covered = none_nil _ r }
    go false b c p q r f = absurd (omega arith)
    go true true c p q r f = absurd (omega arith)
    go true false false p q r f = absurd (omega arith)

pub message_is : (d : List ℕ) → Message d → message_fault d ≡ 0
unfolding message_fault covers
message_is d m =
    simp (eq-eqb (front_fault d) 0 m.front, le-ltb (length d) (size_of d) m.inside, ap none m.covered)

pub data Case (d : List ℕ) (f n m : ℕ) : Result Room Refusal → Type 0 where
  no_message : (message_fault d ≡ 0 → ⊥) → Case d f n m (Err (by 21))
  wrong : message_fault d ≡ 0 → (f ≡ 0 → ⊥) → Case d f n m (Err (by f))
  padding : message_fault d ≡ 0 → f ≡ 0 → (n + m ≡ padded n → ⊥) → Case d f n m (Err (by 24))
  long : message_fault d ≡ 0 → f ≡ 0 → n + m ≡ padded n → 65532 < body_with d n → Case d f n m (Err (by 25))
  small : message_fault d ≡ 0 → f ≡ 0 → n + m ≡ padded n → body_with d n ≤ 65532 → length d < 20 + body_with d n → Case d f n m (Err (by 26))
  goes : message_fault d ≡ 0 → f ≡ 0 → n + m ≡ padded n → body_with d n ≤ 65532 → 20 + body_with d n ≤ length d
      → Case d f n m (Ok (record { at = size_of d; body = body_with d n; total = 20 + body_with d n }))

pub plan_is : {d : List ℕ} {f n m : ℕ} {p : Result Room Refusal} → Case d f n m p → p ≡ plan_of d f n m
unfolding plan_of
plan_is {d} {f} {n} {m} (no_message g) = simp (ne_eqb (message_fault d) 0 g)
plan_is {d} {f} {n} {m} (wrong g w) = simp (eq-eqb (message_fault d) 0 g, ne_eqb f 0 w)
plan_is {d} {f} {n} {m} (padding g w e) = simp (eq-eqb (message_fault d) 0 g, eq-eqb f 0 w, ne_eqb (n + m) (padded n) e)
plan_is {d} {f} {n} {m} (long g w e s) =
    simp (eq-eqb (message_fault d) 0 g, eq-eqb f 0 w, eq-eqb (n + m) (padded n) e, lt-ltb 65532 (body_with d n) s)
plan_is {d} {f} {n} {m} (small g w e s t) =
    simp
    (eq-eqb (message_fault d) 0 g, eq-eqb f 0 w, eq-eqb (n + m) (padded n) e, le-ltb 65532 (body_with d n) s, lt-ltb (length d) (20 + body_with d n) t)
plan_is {d} {f} {n} {m} (goes g w e s t) =
    simp
    (eq-eqb (message_fault d) 0 g, eq-eqb f 0 w, eq-eqb (n + m) (padded n) e, le-ltb 65532 (body_with d n) s, le-ltb (length d) (20 + body_with d n) t)

as_plan : {d : List ℕ} {f n m : ℕ} {p : Result Room Refusal} → Case d f n m p → Case d f n m (plan_of d f n m)
as_plan {d} {f} {n} {m} x = subst (λ (p : Result Room Refusal). Case d f n m p) (plan_is x) x

-- every attribute has its case
pub view : (d : List ℕ) (f n m : ℕ) → Case d f n m (plan_of d f n m)
view d f n m = c1 (ℕ_discrete (message_fault d) 0)
  where
    c5 : message_fault d ≡ 0 → f ≡ 0 → n + m ≡ padded n → body_with d n ≤ 65532 → Dec (length d < 20 + body_with d n) → Case d f n m (plan_of d f n m)
    c5 g w e s (yes t) = as_plan (small g w e s t)
    c5 g w e s (no t) = as_plan (goes g w e s (omega arith))

    c4 : message_fault d ≡ 0 → f ≡ 0 → n + m ≡ padded n → Dec (65532 < body_with d n) → Case d f n m (plan_of d f n m)
    c4 g w e (yes s) = as_plan (long g w e s)
    c4 g w e (no s) = c5 g w e (omega arith) (dec_lt _ _)

    c3 : message_fault d ≡ 0 → f ≡ 0 → Dec (n + m ≡ padded n) → Case d f n m (plan_of d f n m)
    c3 g w (yes e) = c4 g w e (dec_lt _ _)
    c3 g w (no e) = as_plan (padding g w e)

    c2 : message_fault d ≡ 0 → Dec (f ≡ 0) → Case d f n m (plan_of d f n m)
    c2 g (yes w) = c3 g w (ℕ_discrete _ _)
    c2 g (no w) = as_plan (wrong g w)

    c1 : Dec (message_fault d ≡ 0) → Case d f n m (plan_of d f n m)
    c1 (yes g) = c2 g (ℕ_discrete _ _)
    c1 (no g) = as_plan (no_message g)

-- what is known of an attribute that goes
pub record Going (d : List ℕ) (f n m : ℕ) (r : Room) : Type 0 where
  pub fault : message_fault d ≡ 0
  pub right : f ≡ 0
  pub pads : n + m ≡ padded n
  pub place : r.at ≡ size_of d
  pub new_body : r.body ≡ body_with d n
  pub size : r.total ≡ 20 + r.body
  pub few : r.body ≤ 65532
  pub room : r.total ≤ length d

case_goes : {d : List ℕ} {f n m : ℕ} {r : Room} → Case d f n m (Ok r) → Going d f n m r
case_goes (goes g w e s t) =
    record { fault = g; right = w; pads = e; place = refl; new_body = refl; size = refl; few = s; room = t }

pub going : {d : List ℕ} {f n m : ℕ} {r : Room} {p : Result Room Refusal} → p ≡ Ok r → p ≡ plan_of d f n m → Going d f n m r
going {d} {f} {n} {m} g e = case_goes (subst (λ (x : Result Room Refusal). Case d f n m x) (sym e ∙ g) (view d f n m))
