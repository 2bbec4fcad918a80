-- The contract of `plan_for` determines its answer.
use Rattle.std.specs.Prelude.{ℕ, List, Result}
use Rattle.base.specs.DeterminedLaws.{by}
use Rattle.base.specs.Determined.{Determines}
use Rattle.wire.specs.declared.refusal.Refusal.{Refusal}
use Rattle.write_plan.specs.Plan.{plan_of}
use Rattle.write_plan.specs.SaidLaws.{plan_one}
use Rattle.write_plan.specs.declared.Room.{Room}
use Rattle.write_plan.proofs.plan_for.Kinds as plan_for_kinds
use Rattle.write_plan.proofs.plan_for.Reads as plan_for_reads

pub determined-plan_for : Determines plan_for_kinds.ps plan_for_kinds.r {I = List ℕ × ℕ × ℕ × ℕ} {A = Result Room Refusal} plan_for_reads.Asked plan_for_reads.Learnt
    (λ κs a. (a.0.now, a.1.0, a.1.1.0, a.1.1.1.0)) (λ κs z e. z)
determined-plan_for =
    by plan_for_kinds.ps plan_for_kinds.r plan_for_reads.Asked plan_for_reads.Learnt _ _
    (λ x. plan_of x.0 x.1 x.2 x.3)
    (λ κs a y d i q. plan_one q)
