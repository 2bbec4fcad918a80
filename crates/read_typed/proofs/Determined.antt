-- The contracts of the public calls determine what they answer: of a part, its bytes and where it lies.
use Rattle.std.specs.Prelude.{ℕ, ◌+◌, List, Result}
use Rattle.std.proofs.Common.{ap₂}
use Rattle.base.specs.DeterminedLaws.{by}
use Rattle.base.specs.Determined.{Determines}
use Rattle.wire.specs.declared.refusal.Refusal.{Refusal}
use Rattle.wire.specs.declared.transaction_id.TransactionId.{TransactionId}
use Rattle.registry.specs.Rows.{rfc5389}
use Rattle.read_typed.specs.Typed.{typed_of, part_of, part_at}
use Rattle.read_typed.specs.SaidLaws.{typed_one}
use Rattle.read_typed.specs.declared.Value.{Value}
use Rattle.read_typed.proofs.value_of.Kinds as value_kinds
use Rattle.read_typed.proofs.value_of.Reads as value_reads
use Rattle.read_typed.proofs.part_of.Kinds as part_kinds
use Rattle.read_typed.proofs.part_of.Reads as part_reads

pub determined-value_of : Determines value_kinds.ps value_kinds.r {I = ℕ × List ℕ × TransactionId} {A = Result Value Refusal} value_reads.Asked value_reads.Learnt
    (λ κs a. (a.0, a.1.0.now, a.1.1.0)) (λ κs z e. z)
determined-value_of =
    by value_kinds.ps value_kinds.r value_reads.Asked value_reads.Learnt _ _ (λ x. typed_of rfc5389 x.0 x.1 x.2) (λ κs a y d i q. typed_one q)

pub determined-part_of : Determines part_kinds.ps part_kinds.r {I = ℕ × List ℕ × (ℕ × ℕ)} {A = List ℕ × (ℕ × ℕ)} part_reads.Asked part_reads.Learnt
    (λ κs a. (a.0, a.1.0.now, a.1.0.ref_ptr)) (λ κs z e. (z.now, z.ref_ptr))
determined-part_of =
    by part_kinds.ps part_kinds.r part_reads.Asked part_reads.Learnt _ _
    (λ x. (part_of rfc5389 x.0 x.1, (x.2.0, part_at rfc5389 x.0 x.1 + x.2.1)))
    (λ κs a y d i q. ap₂ (λ (u : List ℕ) (v : ℕ × ℕ). (u, v)) q.0 q.1)
