-- The contracts of the calls determine their answers.
use Rattle.std.specs.Prelude.{ℕ}
use Rattle.base.specs.DeterminedLaws.{by}
use Rattle.base.specs.Determined.{Determines}
use Rattle.names.specs.Names.{attribute_name, code_name, number_name, method_name}
use Rattle.c_names.specs.Name.{told, class_told}
use Rattle.c_names.specs.declared.Name.{Name}
use Rattle.c_names.proofs.cratehoist_attribute_name.Kinds as attribute_name_kinds
use Rattle.c_names.proofs.cratehoist_attribute_name.Reads as attribute_name_reads
use Rattle.c_names.proofs.cratehoist_code_name.Kinds as code_name_kinds
use Rattle.c_names.proofs.cratehoist_code_name.Reads as code_name_reads
use Rattle.c_names.proofs.cratehoist_number_name.Kinds as number_name_kinds
use Rattle.c_names.proofs.cratehoist_number_name.Reads as number_name_reads
use Rattle.c_names.proofs.cratehoist_class_name.Kinds as class_name_kinds
use Rattle.c_names.proofs.cratehoist_class_name.Reads as class_name_reads
use Rattle.c_names.proofs.cratehoist_method_name.Kinds as method_name_kinds
use Rattle.c_names.proofs.cratehoist_method_name.Reads as method_name_reads

pub determined-cratehoist_attribute_name : Determines attribute_name_kinds.ps attribute_name_kinds.r {I = ℕ} {A = Name} attribute_name_reads.Asked attribute_name_reads.Learnt
    (λ κs a. a.0) (λ κs z e. z)
determined-cratehoist_attribute_name =
    by attribute_name_kinds.ps attribute_name_kinds.r attribute_name_reads.Asked attribute_name_reads.Learnt _ _
    (λ x. told (attribute_name x))
    (λ κs a y d i q. q)

pub determined-cratehoist_code_name : Determines code_name_kinds.ps code_name_kinds.r {I = ℕ} {A = Name} code_name_reads.Asked code_name_reads.Learnt
    (λ κs a. a.0) (λ κs z e. z)
determined-cratehoist_code_name =
    by code_name_kinds.ps code_name_kinds.r code_name_reads.Asked code_name_reads.Learnt _ _
    (λ x. told (code_name x))
    (λ κs a y d i q. q)

pub determined-cratehoist_number_name : Determines number_name_kinds.ps number_name_kinds.r {I = ℕ} {A = Name} number_name_reads.Asked number_name_reads.Learnt
    (λ κs a. a.0) (λ κs z e. z)
determined-cratehoist_number_name =
    by number_name_kinds.ps number_name_kinds.r number_name_reads.Asked number_name_reads.Learnt _ _
    (λ x. told (number_name x))
    (λ κs a y d i q. q)

pub determined-cratehoist_class_name : Determines class_name_kinds.ps class_name_kinds.r {I = ℕ} {A = Name} class_name_reads.Asked class_name_reads.Learnt
    (λ κs a. a.0) (λ κs z e. z)
determined-cratehoist_class_name =
    by class_name_kinds.ps class_name_kinds.r class_name_reads.Asked class_name_reads.Learnt _ _
    (λ x. class_told x)
    (λ κs a y d i q. q)

pub determined-cratehoist_method_name : Determines method_name_kinds.ps method_name_kinds.r {I = ℕ} {A = Name} method_name_reads.Asked method_name_reads.Learnt
    (λ κs a. a.0) (λ κs z e. z)
determined-cratehoist_method_name =
    by method_name_kinds.ps method_name_kinds.r method_name_reads.Asked method_name_reads.Learnt _ _
    (λ x. told (method_name x))
    (λ κs a y d i q. q)
