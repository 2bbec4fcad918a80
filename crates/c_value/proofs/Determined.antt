-- The contracts of the calls determine their answers and the buffer.
use Prim.Native.Nat.{ℕ}
use mathlib.Core.List.{List}
use Rattle.base.specs.DeterminedLaws.{by}
use Rattle.base.specs.Determined.{Determines}
use Rattle.registry.specs.Rows.{rfc5389}
use Rattle.read_first.specs.First.{first_said, first_in, first, placed}
use Rattle.read_integrity.specs.Integrity.{integrity_fault}
use Rattle.c_value.specs.Part.{first_out, value_in, realm_in}
use Rattle.c_value.specs.declared.First.{First}
use Rattle.c_value.specs.declared.Part.{Part}
use Rattle.c_value.proofs.cratehoist_search.Kinds as search_kinds_kinds
use Rattle.c_value.proofs.cratehoist_search.Reads as search_reads
use Rattle.c_value.proofs.cratehoist_first_value.Kinds as first_value_kinds_kinds
use Rattle.c_value.proofs.cratehoist_first_value.Reads as first_value_reads
use Rattle.c_value.proofs.cratehoist_realm.Kinds as realm_kinds_kinds
use Rattle.c_value.proofs.cratehoist_realm.Reads as realm_reads
use Rattle.c_value.proofs.cratehoist_check_integrity.Kinds as check_integrity_kinds_kinds
use Rattle.c_value.proofs.cratehoist_check_integrity.Reads as check_integrity_reads

pub determined-cratehoist_search : Determines search_kinds_kinds.ps search_kinds_kinds.r {I = List ℕ × ℕ} {A = First} search_reads.Asked search_reads.Learnt
    (λ κs a. (a.0.now, a.1.0)) (λ κs z e. z)
determined-cratehoist_search =
    by search_kinds_kinds.ps search_kinds_kinds.r search_reads.Asked search_reads.Learnt _ _
    (λ x. first_out (first_said (placed (first_in x.1 x.0))))
    (λ κs a y d i q. q)

pub determined-cratehoist_first_value : Determines first_value_kinds_kinds.ps first_value_kinds_kinds.r {I = List ℕ × ℕ} {A = Part} first_value_reads.Asked first_value_reads.Learnt
    (λ κs a. (a.0.now, a.1.0)) (λ κs z e. z)
determined-cratehoist_first_value =
    by first_value_kinds_kinds.ps first_value_kinds_kinds.r first_value_reads.Asked first_value_reads.Learnt _ _
    (λ x. value_in (first rfc5389 x.1 x.0))
    (λ κs a y d i q. q)

pub determined-cratehoist_realm : Determines realm_kinds_kinds.ps realm_kinds_kinds.r {I = List ℕ × List ℕ} {A = Part} realm_reads.Asked realm_reads.Learnt
    (λ κs a. (a.0.now, a.1.0.now)) (λ κs z e. z)
determined-cratehoist_realm =
    by realm_kinds_kinds.ps realm_kinds_kinds.r realm_reads.Asked realm_reads.Learnt _ _
    (λ x. realm_in x.0 x.1)
    (λ κs a y d i q. q)

pub determined-cratehoist_check_integrity : Determines check_integrity_kinds_kinds.ps check_integrity_kinds_kinds.r {I = List ℕ × List ℕ} {A = ℕ} check_integrity_reads.Asked check_integrity_reads.Learnt
    (λ κs a. (a.0.now, a.1.0.now)) (λ κs z e. z)
determined-cratehoist_check_integrity =
    by check_integrity_kinds_kinds.ps check_integrity_kinds_kinds.r check_integrity_reads.Asked check_integrity_reads.Learnt _ _
    (λ x. integrity_fault rfc5389 x.0 x.1)
    (λ κs a y d i q. q)
