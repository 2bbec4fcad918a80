-- The contract of each public call determines its answer.
use Rattle.std.specs.Prelude.{ℕ, List, Result}
use Rattle.base.specs.DeterminedLaws.{by}
use Rattle.base.specs.Determined.{Determines}
use Rattle.wire.specs.declared.refusal.Refusal.{Refusal}
use Rattle.header.specs.Header.{front_of, header_of}
use Rattle.header.specs.SaidLaws.{header_one}
use Rattle.header.specs.declared.Header.{Header}
use Rattle.header.proofs.front_of.Kinds as front_of_kinds
use Rattle.header.proofs.front_of.Reads as front_of_reads
use Rattle.header.proofs.header_of.Kinds as header_of_kinds
use Rattle.header.proofs.header_of.Reads as header_of_reads

pub determined-front_of : Determines front_of_kinds.ps front_of_kinds.r {I = List ℕ} {A = Result Header Refusal} front_of_reads.Asked front_of_reads.Learnt
    (λ κs a. a.0.now) (λ κs z e. z)
determined-front_of = by front_of_kinds.ps front_of_kinds.r front_of_reads.Asked front_of_reads.Learnt _ _ front_of (λ κs a y d i q. header_one q)

pub determined-header_of : Determines header_of_kinds.ps header_of_kinds.r {I = List ℕ} {A = Result Header Refusal} header_of_reads.Asked header_of_reads.Learnt
    (λ κs a. a.0.now) (λ κs z e. z)
determined-header_of = by header_of_kinds.ps header_of_kinds.r header_of_reads.Asked header_of_reads.Learnt _ _ header_of (λ κs a y d i q. header_one q)
