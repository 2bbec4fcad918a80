-- The contracts of the calls determine their answers and the buffer.
use Rattle.std.specs.Prelude.{ℕ, List, length}
use Rattle.std.proofs.Common.{ap₂}
use Rattle.base.specs.DeterminedLaws.{by}
use Rattle.base.specs.Determined.{Determines}
use Rattle.registry.specs.Rows.{rfc5389}
use Rattle.registry.specs.ErrorCode.{code_value}
use Rattle.read_typed.specs.Typed.{typed_of, part_of, part_at}
use Rattle.write_raw.specs.Append.{answer, appended}
use Rattle.write_typed.specs.Typed.{typed, refusal, text_refusal}
use Rattle.write_error_code.specs.ErrorCode.{code_refusal}
use Rattle.c_write.specs.Written.{told}
use Rattle.c_typed.specs.Typed.{typed_told}
use Rattle.c_typed.specs.Given.{refusal_of, attr_of, error_of}
use Rattle.c_typed.specs.declared.Typed.{Typed}
use Rattle.c_wire.specs.declared.Address.{Address}
use Rattle.c_wire.specs.declared.Id.{Id}
use Rattle.c_write.specs.declared.Written.{Written}
use Rattle.c_typed.proofs.cratehoist_typed_value.Kinds as typed_value_kinds_kinds
use Rattle.c_typed.proofs.cratehoist_typed_value.Reads as typed_value_reads
use Rattle.c_typed.proofs.cratehoist_refusal.Kinds as refusal_kinds_kinds
use Rattle.c_typed.proofs.cratehoist_refusal.Reads as refusal_reads
use Rattle.c_typed.proofs.cratehoist_append_text.Kinds as append_text_kinds_kinds
use Rattle.c_typed.proofs.cratehoist_append_text.Reads as append_text_reads
use Rattle.c_typed.proofs.cratehoist_append_unknown_attributes.Kinds as append_unknown_attributes_kinds_kinds
use Rattle.c_typed.proofs.cratehoist_append_unknown_attributes.Reads as append_unknown_attributes_reads
use Rattle.c_typed.proofs.cratehoist_append_address.Kinds as append_address_kinds_kinds
use Rattle.c_typed.proofs.cratehoist_append_address.Reads as append_address_reads
use Rattle.c_typed.proofs.cratehoist_append_error_code.Kinds as append_error_code_kinds_kinds
use Rattle.c_typed.proofs.cratehoist_append_error_code.Reads as append_error_code_reads

pub determined-cratehoist_typed_value : Determines typed_value_kinds_kinds.ps typed_value_kinds_kinds.r {I = ℕ × List ℕ × Id} {A = Typed} typed_value_reads.Asked typed_value_reads.Learnt
    (λ κs a. (a.0, a.1.0.now, a.1.1.0)) (λ κs z e. z)
determined-cratehoist_typed_value =
    by typed_value_kinds_kinds.ps typed_value_kinds_kinds.r typed_value_reads.Asked typed_value_reads.Learnt _ _
    (λ x. typed_told (typed_of rfc5389 x.0 x.1 (record { bytes = x.2.bytes })) (part_at rfc5389 x.0 x.1) (length (part_of rfc5389 x.0 x.1)))
    (λ κs a y d i q. q)

pub determined-cratehoist_refusal : Determines refusal_kinds_kinds.ps refusal_kinds_kinds.r {I = ℕ × List ℕ} {A = ℕ} refusal_reads.Asked refusal_reads.Learnt
    (λ κs a. (a.0, a.1.0.now)) (λ κs z e. z)
determined-cratehoist_refusal =
    by refusal_kinds_kinds.ps refusal_kinds_kinds.r refusal_reads.Asked refusal_reads.Learnt _ _
    (λ x. refusal rfc5389 x.0 x.1)
    (λ κs a y d i q. q)

pub determined-cratehoist_append_text : Determines append_text_kinds_kinds.ps append_text_kinds_kinds.r {I = List ℕ × ℕ × List ℕ} {A = Written × List ℕ} append_text_reads.Asked append_text_reads.Learnt
    (λ κs a. (a.0.now, a.1.0, a.1.1.0.now)) (λ κs z e. (z, e.0.now))
determined-cratehoist_append_text =
    by append_text_kinds_kinds.ps append_text_kinds_kinds.r append_text_reads.Asked append_text_reads.Learnt _ _
    (λ x. (told (answer x.0 (text_refusal rfc5389 x.1 x.2) (typed x.1 x.2)), appended x.0 (text_refusal rfc5389 x.1 x.2) (typed x.1 x.2)))
    (λ κs a y d i q. ap₂ (λ (u : Written) (v : List ℕ). (u, v)) q.0 q.1)

pub determined-cratehoist_append_unknown_attributes : Determines append_unknown_attributes_kinds_kinds.ps append_unknown_attributes_kinds_kinds.r {I = List ℕ × List ℕ} {A = Written × List ℕ} append_unknown_attributes_reads.Asked append_unknown_attributes_reads.Learnt
    (λ κs a. (a.0.now, a.1.0.now)) (λ κs z e. (z, e.0.now))
determined-cratehoist_append_unknown_attributes =
    by append_unknown_attributes_kinds_kinds.ps append_unknown_attributes_kinds_kinds.r append_unknown_attributes_reads.Asked append_unknown_attributes_reads.Learnt _ _
    (λ x. (told (answer x.0 (refusal rfc5389 0x000A x.1) (typed 0x000A x.1)), appended x.0 (refusal rfc5389 0x000A x.1) (typed 0x000A x.1)))
    (λ κs a y d i q. ap₂ (λ (u : Written) (v : List ℕ). (u, v)) q.0 q.1)

pub determined-cratehoist_append_address : Determines append_address_kinds_kinds.ps append_address_kinds_kinds.r {I = List ℕ × ℕ × Address} {A = Written × List ℕ} append_address_reads.Asked append_address_reads.Learnt
    (λ κs a. (a.0.now, a.1.0, a.1.1.0)) (λ κs z e. (z, e.0.now))
determined-cratehoist_append_address =
    by append_address_kinds_kinds.ps append_address_kinds_kinds.r append_address_reads.Asked append_address_reads.Learnt _ _
    (λ x. (told (answer x.0 (refusal_of x.1 x.2) (attr_of x.0 x.1 x.2)), appended x.0 (refusal_of x.1 x.2) (attr_of x.0 x.1 x.2)))
    (λ κs a y d i q. ap₂ (λ (u : Written) (v : List ℕ). (u, v)) q.0 q.1)

pub determined-cratehoist_append_error_code : Determines append_error_code_kinds_kinds.ps append_error_code_kinds_kinds.r {I = List ℕ × ℕ × ℕ × List ℕ} {A = Written × List ℕ} append_error_code_reads.Asked append_error_code_reads.Learnt
    (λ κs a. (a.0.now, a.1.0, a.1.1.0, a.1.1.1.0.now)) (λ κs z e. (z, e.0.now))
determined-cratehoist_append_error_code =
    by append_error_code_kinds_kinds.ps append_error_code_kinds_kinds.r append_error_code_reads.Asked append_error_code_reads.Learnt _ _
    (λ x. (told (answer x.0 (code_refusal rfc5389 (error_of x.1 x.2) x.3) (typed 0x0009 (code_value (error_of x.1 x.2) x.3))), appended x.0 (code_refusal rfc5389 (error_of x.1 x.2) x.3) (typed 0x0009 (code_value (error_of x.1 x.2) x.3))))
    (λ κs a y d i q. ap₂ (λ (u : Written) (v : List ℕ). (u, v)) q.0 q.1)
