-- The contracts of the public calls determine what they answer.
use Prim.Native.Nat.{ℕ}
use mathlib.Core.List.{List}
use Rattle.base.specs.DeterminedLaws.{by}
use Rattle.base.specs.Determined.{Determines}
use Rattle.attribute.specs.Walk.{step_at, walk_at}
use Rattle.attribute.specs.SaidLaws.{walk_one}
use Rattle.attribute.specs.declared.Walk.{Walk}
use Rattle.attribute.proofs.step.Kinds as step_kinds
use Rattle.attribute.proofs.step.Reads as step_reads
use Rattle.attribute.proofs.walk_at.Kinds as walk_kinds
use Rattle.attribute.proofs.walk_at.Reads as walk_reads

pub determined-step : Determines step_kinds.ps step_kinds.r {I = List ℕ × ℕ} {A = Walk} step_reads.Asked step_reads.Learnt (λ κs a. (a.0.now, a.1.0)) (λ κs z e. z)
determined-step = by step_kinds.ps step_kinds.r step_reads.Asked step_reads.Learnt _ _ (λ x. step_at x.0 x.1) (λ κs a y d i q. walk_one q)

pub determined-walk_at : Determines walk_kinds.ps walk_kinds.r {I = List ℕ × ℕ} {A = Walk} walk_reads.Asked walk_reads.Learnt (λ κs a. (a.0.now, a.1.0)) (λ κs z e. z)
determined-walk_at = by walk_kinds.ps walk_kinds.r walk_reads.Asked walk_reads.Learnt _ _ (λ x. walk_at x.0 x.1) (λ κs a y d i q. walk_one q)
