-- The contract of `begin` determines its answer and the buffer.
use Rattle.std.specs.Prelude.{ℕ, List, Result}
use mathlib.Core.Path.{ap₂}
use Rattle.base.specs.DeterminedLaws.{by}
use Rattle.base.specs.Determined.{Determines}
use Rattle.wire.specs.declared.method.Method.{Method}
use Rattle.wire.specs.declared.refusal.Refusal.{Refusal}
use Rattle.wire.specs.declared.transaction_id.TransactionId.{TransactionId}
use Rattle.wire.specs.declared.types.MessageClass.{MessageClass}
use Rattle.write_begin.specs.Begin.{begun, beginning}
use Rattle.write_begin.specs.SaidLaws.{written_one}
use Rattle.write_begin.proofs.begin.Kinds as begin_kinds
use Rattle.write_begin.proofs.begin.Reads as begin_reads

pub determined-begin : Determines begin_kinds.ps begin_kinds.r {I = List ℕ × MessageClass × Method × TransactionId} {A = Result ℕ Refusal × List ℕ} begin_reads.Asked begin_reads.Learnt
    (λ κs a. (a.0.now, a.1.0, a.1.1.0, a.1.1.1.0)) (λ κs z e. (z, e.0.now))
determined-begin =
    by begin_kinds.ps begin_kinds.r begin_reads.Asked begin_reads.Learnt _ _
    (λ x. (begun x.0 x.2, beginning x.0 x.1 x.2 x.3))
    (λ κs a y d i q. ap₂ (λ (u : Result ℕ Refusal) (v : List ℕ). (u, v)) (written_one q.0) q.1)
