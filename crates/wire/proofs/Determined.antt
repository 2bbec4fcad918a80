-- The contract of each public call determines its answer.
use Rattle.std.specs.Prelude.{ℕ, Result}
use Rattle.base.specs.DeterminedLaws.{by}
use Rattle.base.specs.Determined.{Determines}
use Rattle.wire.specs.Refusal.{number_of, refused_by}
use Rattle.wire.specs.TypeNumber.{class_number, class_numbered, method_made, type_number, type_from}
use Rattle.wire.specs.TypeLaws.{class_is}
use Rattle.wire.specs.SaidLaws.{new_method_one, type_number_one, from_number_one}
use Rattle.wire.specs.declared.method.Method.{Method}
use Rattle.wire.specs.declared.refusal.Refusal.{Refusal}
use Rattle.wire.specs.declared.types.MessageClass.{MessageClass}
use Rattle.wire.specs.declared.types.MessageType.{MessageType}
use Rattle.wire.proofs.method.Method.new.Kinds as new_kinds
use Rattle.wire.proofs.method.Method.new.Reads as new_reads
use Rattle.wire.proofs.method.Method.as_u16.Kinds as method_kinds
use Rattle.wire.proofs.method.Method.as_u16.Reads as method_reads
use Rattle.wire.proofs.types.MessageClass.as_u16.Kinds as class_kinds
use Rattle.wire.proofs.types.MessageClass.as_u16.Reads as class_reads
use Rattle.wire.proofs.types.class_numbered.Kinds as numbered_kinds
use Rattle.wire.proofs.types.class_numbered.Reads as numbered_reads
use Rattle.wire.proofs.types.MessageType.as_u16.Kinds as number_kinds
use Rattle.wire.proofs.types.MessageType.as_u16.Reads as number_reads
use Rattle.wire.proofs.types.MessageType.from_u16.Kinds as from_kinds
use Rattle.wire.proofs.types.MessageType.from_u16.Reads as from_reads
use Rattle.wire.proofs.refusal.number_of.Kinds as back_kinds
use Rattle.wire.proofs.refusal.number_of.Reads as back_reads
use Rattle.wire.proofs.refusal.refused_by.Kinds as refused_kinds
use Rattle.wire.proofs.refusal.refused_by.Reads as refused_reads

pub determined-Method-new : Determines new_kinds.ps new_kinds.r {I = ℕ} {A = Result Method Refusal} new_reads.Asked new_reads.Learnt (λ κs a. a.0) (λ κs z e. z)
determined-Method-new = by new_kinds.ps new_kinds.r new_reads.Asked new_reads.Learnt _ _ method_made (λ κs a y d i q. new_method_one q)

pub determined-Method-as_u16 : Determines method_kinds.ps method_kinds.r {I = Method} {A = ℕ} method_reads.Asked method_reads.Learnt (λ κs a. a.0) (λ κs z e. z)
determined-Method-as_u16 = by method_kinds.ps method_kinds.r method_reads.Asked method_reads.Learnt _ _ (λ m. m.code) (λ κs a y d i q. q)

pub determined-MessageClass-as_u16 : Determines class_kinds.ps class_kinds.r {I = MessageClass} {A = ℕ} class_reads.Asked class_reads.Learnt (λ κs a. a.0) (λ κs z e. z)
determined-MessageClass-as_u16 = by class_kinds.ps class_kinds.r class_reads.Asked class_reads.Learnt _ _ class_number (λ κs a y d i q. q)

pub determined-class_numbered : Determines numbered_kinds.ps numbered_kinds.r {I = ℕ} {A = MessageClass} numbered_reads.Asked numbered_reads.Learnt (λ κs a. a.0) (λ κs z e. z)
determined-class_numbered = by numbered_kinds.ps numbered_kinds.r numbered_reads.Asked numbered_reads.Learnt _ _ class_numbered (λ κs a y d i q. class_is _ _ q)

pub determined-MessageType-as_u16 : Determines number_kinds.ps number_kinds.r {I = MessageType} {A = Result ℕ Refusal} number_reads.Asked number_reads.Learnt
    (λ κs a. a.0) (λ κs z e. z)
determined-MessageType-as_u16 = by number_kinds.ps number_kinds.r number_reads.Asked number_reads.Learnt _ _ type_number (λ κs a y d i q. type_number_one q)

pub determined-MessageType-from_u16 : Determines from_kinds.ps from_kinds.r {I = ℕ} {A = Result MessageType Refusal} from_reads.Asked from_reads.Learnt (λ κs a. a.0) (λ κs z e. z)
determined-MessageType-from_u16 = by from_kinds.ps from_kinds.r from_reads.Asked from_reads.Learnt _ _ type_from (λ κs a y d i q. from_number_one q)

pub determined-number_of : Determines back_kinds.ps back_kinds.r {I = Result Unit Refusal} {A = ℕ} back_reads.Asked back_reads.Learnt (λ κs a. a.0) (λ κs z e. z)
determined-number_of = by back_kinds.ps back_kinds.r back_reads.Asked back_reads.Learnt _ _ number_of (λ κs a y d i q. q)

pub determined-refused_by : Determines refused_kinds.ps refused_kinds.r {I = ℕ} {A = Result Unit Refusal} refused_reads.Asked refused_reads.Learnt
    (λ κs a. a.0) (λ κs z e. z)
determined-refused_by = by refused_kinds.ps refused_kinds.r refused_reads.Asked refused_reads.Learnt _ _ refused_by (λ κs a y d i q. q)
