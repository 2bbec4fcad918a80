-- The contract of each public call determines its answer.
use Rattle.std.specs.Prelude.{ℕ, List}
use Rattle.base.specs.DeterminedLaws.{by}
use Rattle.base.specs.Determined.{Determines}
use Rattle.wire.specs.declared.method.Method.{Method}
use Rattle.wire.specs.declared.types.MessageClass.{MessageClass}
use Rattle.names.specs.Names.{attribute_name, code_name, number_name, class_name, method_name}
use Rattle.names.proofs.attribute.Kinds as attribute_kinds
use Rattle.names.proofs.attribute.Reads as attribute_reads
use Rattle.names.proofs.code.Kinds as code_kinds
use Rattle.names.proofs.code.Reads as code_reads
use Rattle.names.proofs.number.Kinds as number_kinds
use Rattle.names.proofs.number.Reads as number_reads
use Rattle.names.proofs.class.Kinds as class_kinds
use Rattle.names.proofs.class.Reads as class_reads
use Rattle.names.proofs.method.Kinds as method_kinds
use Rattle.names.proofs.method.Reads as method_reads

pub determined-attribute : Determines attribute_kinds.ps attribute_kinds.r {I = ℕ} {A = List ℕ} attribute_reads.Asked attribute_reads.Learnt (λ κs a. a.0) (λ κs z e. z.now)
determined-attribute = by attribute_kinds.ps attribute_kinds.r attribute_reads.Asked attribute_reads.Learnt _ _ attribute_name (λ κs a y d i q. q)

pub determined-code : Determines code_kinds.ps code_kinds.r {I = ℕ} {A = List ℕ} code_reads.Asked code_reads.Learnt (λ κs a. a.0) (λ κs z e. z.now)
determined-code = by code_kinds.ps code_kinds.r code_reads.Asked code_reads.Learnt _ _ code_name (λ κs a y d i q. q)

pub determined-number : Determines number_kinds.ps number_kinds.r {I = ℕ} {A = List ℕ} number_reads.Asked number_reads.Learnt (λ κs a. a.0) (λ κs z e. z.now)
determined-number = by number_kinds.ps number_kinds.r number_reads.Asked number_reads.Learnt _ _ number_name (λ κs a y d i q. q)

pub determined-class : Determines class_kinds.ps class_kinds.r {I = MessageClass} {A = List ℕ} class_reads.Asked class_reads.Learnt (λ κs a. a.0) (λ κs z e. z.now)
determined-class = by class_kinds.ps class_kinds.r class_reads.Asked class_reads.Learnt _ _ class_name (λ κs a y d i q. q)

pub determined-method : Determines method_kinds.ps method_kinds.r {I = Method} {A = List ℕ} method_reads.Asked method_reads.Learnt (λ κs a. a.0) (λ κs z e. z.now)
determined-method = by method_kinds.ps method_kinds.r method_reads.Asked method_reads.Learnt _ _ (λ m. method_name m.code) (λ κs a y d i q. q)
