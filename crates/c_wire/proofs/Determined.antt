-- The contract of the call determines its answer.
use Rattle.base.specs.DeterminedLaws.{by}
use Rattle.base.specs.Determined.{Determines}
use Rattle.c_wire.specs.XorForm.{form_of}
use Rattle.c_wire.specs.declared.Address.{Address}
use Rattle.c_wire.specs.declared.XorForm.{XorForm}
use Rattle.c_wire.specs.declared.Id.{Id}
use Rattle.c_wire.proofs.cratehoist_address_xor.Kinds as address_xor_kinds_kinds
use Rattle.c_wire.proofs.cratehoist_address_xor.Reads as address_xor_reads

pub determined-cratehoist_address_xor : Determines address_xor_kinds_kinds.ps address_xor_kinds_kinds.r {I = Address × Id} {A = XorForm} address_xor_reads.Asked address_xor_reads.Learnt
    (λ κs a. (a.0, a.1.0)) (λ κs z e. z)
determined-cratehoist_address_xor =
    by address_xor_kinds_kinds.ps address_xor_kinds_kinds.r address_xor_reads.Asked address_xor_reads.Learnt _ _
    (λ x. form_of x.0 x.1)
    (λ κs a y d i q. q)
