-- The contracts of the public calls determine their answers and the buffer.
use Rattle.std.specs.Prelude.{ℕ, List, Result}
use Rattle.std.proofs.Common.{ap₂}
use Rattle.base.specs.DeterminedLaws.{by}
use Rattle.base.specs.Determined.{Determines}
use Rattle.wire.specs.declared.refusal.Refusal.{Refusal}
use Rattle.write_begin.specs.SaidLaws.{written_one}
use Rattle.write_raw.specs.Append.{attr, answer, appended}
use Rattle.write_raw.proofs.append_unless.Kinds as append_unless_kinds
use Rattle.write_raw.proofs.append_unless.Reads as append_unless_reads
use Rattle.write_raw.proofs.append_raw.Kinds as append_raw_kinds
use Rattle.write_raw.proofs.append_raw.Reads as append_raw_reads

pub determined-append_unless : Determines append_unless_kinds.ps append_unless_kinds.r {I = List ℕ × ℕ × ℕ × List ℕ × List ℕ} {A = Result ℕ Refusal × List ℕ} append_unless_reads.Asked append_unless_reads.Learnt
    (λ κs a. (a.0.now, a.1.0, a.1.1.0, a.1.1.1.0.now, a.1.1.1.1.0.now)) (λ κs z e. (z, e.0.now))
determined-append_unless =
    by append_unless_kinds.ps append_unless_kinds.r append_unless_reads.Asked append_unless_reads.Learnt _ _
    (λ x. (answer x.0 x.1 (attr x.2 x.3 x.4), appended x.0 x.1 (attr x.2 x.3 x.4)))
    (λ κs a y d i q. ap₂ (λ (u : Result ℕ Refusal) (v : List ℕ). (u, v)) (written_one q.0) q.1)

pub determined-append_raw : Determines append_raw_kinds.ps append_raw_kinds.r {I = List ℕ × ℕ × List ℕ × List ℕ} {A = Result ℕ Refusal × List ℕ} append_raw_reads.Asked append_raw_reads.Learnt
    (λ κs a. (a.0.now, a.1.0, a.1.1.0.now, a.1.1.1.0.now)) (λ κs z e. (z, e.0.now))
determined-append_raw =
    by append_raw_kinds.ps append_raw_kinds.r append_raw_reads.Asked append_raw_reads.Learnt _ _
    (λ x. (answer x.0 0 (attr x.1 x.2 x.3), appended x.0 0 (attr x.1 x.2 x.3)))
    (λ κs a y d i q. ap₂ (λ (u : Result ℕ Refusal) (v : List ℕ). (u, v)) (written_one q.0) q.1)
