-- The contracts of the public calls determine their answers and the buffer.
use Rattle.std.specs.Prelude.{ℕ, List, Result}
use Rattle.std.proofs.Common.{ap₂}
use Rattle.base.specs.DeterminedLaws.{by}
use Rattle.base.specs.Determined.{Determines}
use Rattle.wire.specs.declared.refusal.Refusal.{Refusal}
use Rattle.registry.specs.Rows.{rfc5389}
use Rattle.write_begin.specs.SaidLaws.{written_one}
use Rattle.write_raw.specs.Append.{answer, appended}
use Rattle.write_typed.specs.Typed.{typed, refusal, text_refusal}
use Rattle.write_typed.proofs.refusal_of.Kinds as refusal_of_kinds
use Rattle.write_typed.proofs.refusal_of.Reads as refusal_of_reads
use Rattle.write_typed.proofs.append_value.Kinds as append_value_kinds
use Rattle.write_typed.proofs.append_value.Reads as append_value_reads
use Rattle.write_typed.proofs.append_text.Kinds as append_text_kinds
use Rattle.write_typed.proofs.append_text.Reads as append_text_reads
use Rattle.write_typed.proofs.append_unknown_attributes.Kinds as append_unknown_kinds
use Rattle.write_typed.proofs.append_unknown_attributes.Reads as append_unknown_reads

pub determined-refusal_of : Determines refusal_of_kinds.ps refusal_of_kinds.r {I = ℕ × List ℕ} {A = ℕ} refusal_of_reads.Asked refusal_of_reads.Learnt
    (λ κs a. (a.0, a.1.0.now)) (λ κs z e. z)
determined-refusal_of =
    by refusal_of_kinds.ps refusal_of_kinds.r refusal_of_reads.Asked refusal_of_reads.Learnt _ _
    (λ x. refusal rfc5389 x.0 x.1)
    (λ κs a y d i q. q)

pub determined-append_value : Determines append_value_kinds.ps append_value_kinds.r {I = List ℕ × ℕ × ℕ × List ℕ} {A = Result ℕ Refusal × List ℕ} append_value_reads.Asked append_value_reads.Learnt
    (λ κs a. (a.0.now, a.1.0, a.1.1.0, a.1.1.1.0.now)) (λ κs z e. (z, e.0.now))
determined-append_value =
    by append_value_kinds.ps append_value_kinds.r append_value_reads.Asked append_value_reads.Learnt _ _
    (λ x. (answer x.0 x.1 (typed x.2 x.3), appended x.0 x.1 (typed x.2 x.3)))
    (λ κs a y d i q. ap₂ (λ (u : Result ℕ Refusal) (v : List ℕ). (u, v)) (written_one q.0) q.1)

pub determined-append_text : Determines append_text_kinds.ps append_text_kinds.r {I = List ℕ × ℕ × List ℕ} {A = Result ℕ Refusal × List ℕ} append_text_reads.Asked append_text_reads.Learnt
    (λ κs a. (a.0.now, a.1.0, a.1.1.0.now)) (λ κs z e. (z, e.0.now))
determined-append_text =
    by append_text_kinds.ps append_text_kinds.r append_text_reads.Asked append_text_reads.Learnt _ _
    (λ x. (answer x.0 (text_refusal rfc5389 x.1 x.2) (typed x.1 x.2), appended x.0 (text_refusal rfc5389 x.1 x.2) (typed x.1 x.2)))
    (λ κs a y d i q. ap₂ (λ (u : Result ℕ Refusal) (v : List ℕ). (u, v)) (written_one q.0) q.1)

pub determined-append_unknown_attributes : Determines append_unknown_kinds.ps append_unknown_kinds.r {I = List ℕ × List ℕ} {A = Result ℕ Refusal × List ℕ} append_unknown_reads.Asked append_unknown_reads.Learnt
    (λ κs a. (a.0.now, a.1.0.now)) (λ κs z e. (z, e.0.now))
determined-append_unknown_attributes =
    by append_unknown_kinds.ps append_unknown_kinds.r append_unknown_reads.Asked append_unknown_reads.Learnt _ _
    (λ x. (answer x.0 (refusal rfc5389 0x000A x.1) (typed 0x000A x.1), appended x.0 (refusal rfc5389 0x000A x.1) (typed 0x000A x.1)))
    (λ κs a y d i q. ap₂ (λ (u : Result ℕ Refusal) (v : List ℕ). (u, v)) (written_one q.0) q.1)
