-- Laws of appending that other crates cite.
use Rattle.std.specs.Prelude.{ℕ, suc, ◌+◌, ◌≤◌, List, [], ◌∷◌, ◌≡◌, length, set, drop, Result, Ok, Err}
use Rattle.std.proofs.Math.Path.{refl, ap}
use Rattle.std.proofs.Common.{sym, ◌∙◌, arith, length-append, drop-set-lt}
use Rattle.std.proofs.Math.Decide.{ℕ_discrete}
use Rattle.std.proofs.lemmas.List.Edits.{sets}
use Rattle.base.specs.Laid.{laid}
use Rattle.big_endian.specs.Numbers.{two}
use Rattle.wire.specs.Refusal.{by}
use Rattle.wire.specs.declared.refusal.Refusal.{Refusal}
use Rattle.attribute.specs.Attribute.{Attr, bytes_of}
use Rattle.write_plan.specs.Plan.{message_fault, plan_of}
use Rattle.write_plan.proofs.PlanLaws.{no_message, wrong, plan_is, Going, going}
use Rattle.write_plan.specs.declared.Room.{Room}
use Rattle.write_raw.specs.Append.{attr, answered, written, plan_for, answer, appended}

-- the number of a refusal as such: 21 goes before it
module _ (d : List ℕ) (f : ℕ) (w : f ≡ 0 → ⊥) where
  stopped : (n m : ℕ) → (r : Refusal) × (plan_of d f n m ≡ Err r)
  stopped n m = go (ℕ_discrete (message_fault d) 0)
    where
      go : Dec (message_fault d ≡ 0) → (r : Refusal) × (plan_of d f n m ≡ Err r)
      go (yes g) = (by f, sym (plan_is (wrong g w)))
      go (no g) = (by 21, sym (plan_is (no_message g)))

  same_plan : (n m i j : ℕ) → plan_of d f n m ≡ plan_of d f i j
  same_plan n m i j = go (ℕ_discrete (message_fault d) 0)
    where
      go : Dec (message_fault d ≡ 0) → plan_of d f n m ≡ plan_of d f i j
      go (yes g) = sym (plan_is (wrong g w)) ∙ plan_is (wrong g w)
      go (no g) = sym (plan_is (no_message g)) ∙ plan_is (no_message g)

  -- which attribute it would have been doesn't matter
  pub answer_wrong : (a b : Attr) → answer d f a ≡ answer d f b
  unfolding answer plan_for
  answer_wrong a b = ap answered (same_plan (length a.value) (length a.pad) (length b.value) (length b.pad))

  pub appended_wrong : (a : Attr) → appended d f a ≡ d
  unfolding appended plan_for written
  appended_wrong a = rw (stopped (length a.value) (length a.pad)).1

-- the answer goes by the sizes of value and padding, and the buffer by the value only where it goes
module _ (d : List ℕ) (f k : ℕ) (v w q : List ℕ) (e : length v ≡ length w) where
  pub answer_size : answer d f (attr k v q) ≡ answer d f (attr k w q)
  unfolding answer plan_for
  answer_size = ap (λ (n : ℕ). answered (plan_of d f n (length q))) e

  by_plan : (p : Result Room Refusal) → p ≡ plan_of d f (length w) (length q)
      → ((r : Room) → Going d f (length w) (length q) r → v ≡ w) → written d (attr k v q) p ≡ written d (attr k w q) p
  unfolding written
  by_plan (Err r) g h = refl
  by_plan (Ok r) g h = rw (h r (going {p = Ok r} refl g))

  pub appended_value : ((r : Room) → Going d f (length w) (length q) r → v ≡ w)
      → appended d f (attr k v q) ≡ appended d f (attr k w q)
  unfolding appended plan_for
  appended_value h =
      ap (λ (n : ℕ). written d (attr k v q) (plan_of d f n (length q))) e ∙ by_plan (plan_of d f (length w) (length q)) refl h

-- what an answer with a size says of the plan
pub total_goes : (d : List ℕ) (f : ℕ) (a : Attr) {t : ℕ} → answer d f a ≡ Ok t
    → (r : Room) × (r.total ≡ t) × Going d f (length a.value) (length a.pad) r
unfolding answer answered plan_for
total_goes d f a {t} e = go (plan_for d f a) refl e
  where
    go : (p : Result Room Refusal) → p ≡ plan_for d f a → answered p ≡ Ok t → (r : Room) × (r.total ≡ t) × Going d f (length a.value) (length a.pad) r
    go (Ok r) q g = let z : r.total ≡ t = cc in (r, z, going refl q)
    go (Err r) q g = let z : ◌≡◌ {A = ℕ} 0 1 = cc in absurd (omega arith)

-- NOTHING SPOILT: a refusal leaves every byte as it was
pub refused_keeps : (d : List ℕ) (f : ℕ) (a : Attr) {r : Refusal} → answer d f a ≡ Err r → appended d f a ≡ d
unfolding answer answered appended written
refused_keeps d f a {r} e = go (plan_for d f a) e
  where
    go : (p : Result Room Refusal) → answered p ≡ Err r → written d a p ≡ d
    go (Err x) g = refl
    go (Ok x) g = let z : ◌≡◌ {A = ℕ} 0 1 = cc in absurd (omega arith)

sets_behind : (s l : List ℕ) (i n : ℕ) → i + length s ≤ n → drop n (sets l i s) ≡ drop n l
sets_behind [] l i n h = refl
sets_behind (b ∷ s) l i n h = sets_behind s (set l i b) (suc i) n (omega arith) ∙ drop-set-lt n l i b (omega arith)

laid_behind : (l : List ℕ) (i : ℕ) (s : List ℕ) (n : ℕ) → i + length s ≤ n → drop n (laid l i s) ≡ drop n l
unfolding laid
laid_behind l i s n h = sets_behind s l i n h

-- and an attribute that goes leaves the bytes behind the new total
pub behind_stays : (d : List ℕ) (f : ℕ) (a : Attr) {t : ℕ} → answer d f a ≡ Ok t → drop t (appended d f a) ≡ drop t d
unfolding answer answered appended written plan_for
behind_stays d f a {t} e = go (plan_for d f a) refl e
  where
    go : (p : Result Room Refusal) → p ≡ plan_for d f a → answered p ≡ Ok t → drop t (written d a p) ≡ drop t d
    go (Err r) q g = let z : ◌≡◌ {A = ℕ} 0 1 = cc in absurd (omega arith)
    go (Ok r) q g =
        let z : r.total ≡ t = cc in
        let w : Going d f (length a.value) (length a.pad) r = going refl q in
        let l : length (bytes_of a) ≡ 4 + (length a.value + length a.pad) = simp length-append (omega arith) in
        laid_behind (laid d r.at (bytes_of a)) 2 (two r.body) t (omega (arith, w)) ∙ laid_behind d r.at (bytes_of a) t (omega (arith, w))
