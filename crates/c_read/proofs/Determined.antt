-- The contracts of the calls determine their answers.
use Prim.Native.Nat.{ℕ}
use mathlib.Core.List.{List}
use Rattle.base.specs.DeterminedLaws.{by}
use Rattle.base.specs.Determined.{Determines}
use Rattle.registry.specs.Rows.{rfc5389}
use Rattle.attribute.specs.Walk.{walk_said, walk_at}
use Rattle.read_message.specs.Reading.{reading_of}
use Rattle.c_read.specs.Reading.{said, step_out}
use Rattle.c_read.specs.declared.Reading.{Reading}
use Rattle.c_read.specs.declared.Step.{Step}
use Rattle.c_read.proofs.cratehoist_read.Kinds as read_kinds_kinds
use Rattle.c_read.proofs.cratehoist_read.Reads as read_reads
use Rattle.c_read.proofs.cratehoist_walk.Kinds as walk_kinds_kinds
use Rattle.c_read.proofs.cratehoist_walk.Reads as walk_reads

pub determined-cratehoist_read : Determines read_kinds_kinds.ps read_kinds_kinds.r {I = List ℕ} {A = Reading} read_reads.Asked read_reads.Learnt
    (λ κs a. a.0.now) (λ κs z e. z)
determined-cratehoist_read =
    by read_kinds_kinds.ps read_kinds_kinds.r read_reads.Asked read_reads.Learnt _ _
    (λ x. said (reading_of rfc5389 x))
    (λ κs a y d i q. q)

pub determined-cratehoist_walk : Determines walk_kinds_kinds.ps walk_kinds_kinds.r {I = List ℕ × ℕ} {A = Step} walk_reads.Asked walk_reads.Learnt
    (λ κs a. (a.0.now, a.1.0)) (λ κs z e. z)
determined-cratehoist_walk =
    by walk_kinds_kinds.ps walk_kinds_kinds.r walk_reads.Asked walk_reads.Learnt _ _
    (λ x. step_out (walk_said (walk_at x.0 x.1)))
    (λ κs a y d i q. q)
