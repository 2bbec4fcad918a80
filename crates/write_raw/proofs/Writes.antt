-- What the calls return and leave in the buffer, as the code finds it.
use Rattle.std.specs.Prelude.{ℕ, ◌+◌, ◌≤◌, ◌<◌, List, ◌++◌, ◌≡◌, length, Result, Ok, Err}
use Rattle.std.proofs.Common.{ap, ◌∙◌, arith, length-append}
use Rattle.base.specs.LaidLaws.{length-laid}
use Rattle.base.specs.Laid.{laid}
use Rattle.big_endian.specs.Numbers.{two}
use Rattle.buffers.specs.Put.{put}
use Rattle.buffers.specs.PutLaws.{put_laid, put_behind}
use Rattle.wire.specs.declared.refusal.Refusal.{Refusal}
use Rattle.attribute.specs.Attribute.{bytes_of}
use Rattle.write_plan.specs.Plan.{plan_of}
use Rattle.write_plan.proofs.PlanLaws.{Going, going}
use Rattle.write_plan.specs.declared.Room.{Room}
use Rattle.write_raw.specs.Append.{attr, answered, written, plan_for, answer, appended}

-- the four parts of an attribute, one behind the other
pub parts : (d : List ℕ) (at k n : ℕ) (v q : List ℕ) {b1 b2 b3 b4 : List ℕ} → n ≡ length v → at + (4 + length v + length q) ≤ length d
    → b1 ≡ put d at (two k) → b2 ≡ put b1 (at + 2) (two n) → b3 ≡ put b2 (at + 4) v → b4 ≡ put b3 (at + 4 + n) q
    → b4 ≡ laid d at (bytes_of (attr k v q))
parts d at k n v q {b1} {b2} {b3} {b4} e h p1 p2 p3 p4 =
    let q1 : b1 ≡ laid d at (two k) = p1 ∙ put_laid d at (two k) (omega arith) in
    let q2 : b2 ≡ laid d at (two k ++ two n) = p2 ∙ ap (λ (x : List ℕ). put x (at + 2) (two n)) q1 ∙ put_behind d at (two k) (at + 2) (two n) (omega arith) (omega arith) in
    let q3 : b3 ≡ laid d at (two k ++ two n ++ v) =
    p3 ∙ ap (λ (x : List ℕ). put x (at + 4) v) q2 ∙ put_behind d at (two k ++ two n) (at + 4) v (omega arith) (omega arith)
    in
    let q4 : b4 ≡ laid d at (two k ++ two n ++ v ++ q) =
    p4 ∙ ap (λ (x : List ℕ). put x (at + 4 + n) q) q3
    ∙ put_behind d at (two k ++ two n ++ v) (at + 4 + n) q (simp length-append (omega arith)) (omega arith)
    in
    q4 ∙ ap (λ (x : ℕ). laid d at (two k ++ two x ++ v ++ q)) e

module _ (d : List ℕ) (f k : ℕ) (v q : List ℕ) {p : Result Room Refusal} (e : p ≡ plan_of d f (length v) (length q)) where
  as_plan : p ≡ plan_for d f (attr k v q)
  unfolding plan_for
  as_plan = e

  pub refused : {r : Refusal} → p ≡ Err r → Err r ≡ answer d f (attr k v q)
  unfolding answer answered
  refused g = rw (← as_plan, g)

  pub kept : {r : Refusal} → p ≡ Err r → d ≡ appended d f (attr k v q)
  unfolding appended written
  kept g = rw (← as_plan, g)

  module _ {r : Room} (g : p ≡ Ok r) where
    goes : Going d f (length v) (length q) r
    goes = going g e

    pub value_short : length v < 65536
    value_short = omega (arith, goes)

    pub attr_room : r.at + (4 + length v + length q) ≤ length d
    attr_room = omega (arith, goes)

    pub total_is : Ok r.total ≡ answer d f (attr k v q)
    unfolding answer answered
    total_is = rw (← as_plan, g)

    pub both : {b1 b2 : List ℕ} → b1 ≡ laid d r.at (bytes_of (attr k v q)) → b2 ≡ put b1 2 (two r.body) → b2 ≡ appended d f (attr k v q)
    unfolding appended written
    both {b1} {b2} i j =
        let l : 2 + 2 ≤ length b1 = rw (i, length-laid) (omega (arith, goes)) in
        rw (← as_plan, g) (j ∙ put_laid b1 2 (two r.body) l ∙ ap (λ (x : List ℕ). laid x 2 (two r.body)) i)
