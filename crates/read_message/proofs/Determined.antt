-- The contract of the reader determines what it answers.
use Rattle.std.specs.Prelude.{ℕ, List, Result}
use Rattle.base.specs.DeterminedLaws.{by}
use Rattle.base.specs.Determined.{Determines}
use Rattle.wire.specs.declared.refusal.Refusal.{Refusal}
use Rattle.registry.specs.Rows.{rfc5389}
use Rattle.read_message.specs.Reading.{reading_of}
use Rattle.read_message.specs.SaidLaws.{reading_one}
use Rattle.read_message.specs.declared.Reading.{Reading}
use Rattle.read_message.proofs.read.Kinds as read_kinds
use Rattle.read_message.proofs.read.Reads as read_reads

pub determined-read : Determines read_kinds.ps read_kinds.r {I = List ℕ} {A = Result Reading Refusal} read_reads.Asked read_reads.Learnt (λ κs a. a.0.now) (λ κs z e. z)
determined-read = by read_kinds.ps read_kinds.r read_reads.Asked read_reads.Learnt _ _ (reading_of rfc5389) (λ κs a y d i q. reading_one q)
