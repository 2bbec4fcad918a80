-- The contract of the public call determines what it answers.
use Rattle.std.proofs.Common.{ℕ, List}
use Rattle.base.specs.DeterminedLaws.{by}
use Rattle.base.specs.Determined.{Determines}
use Rattle.fingerprint.specs.Fingerprint.{printed}
use Rattle.fingerprint.proofs.fingerprint_at.Kinds as print_kinds
use Rattle.fingerprint.proofs.fingerprint_at.Reads as print_reads

pub determined-fingerprint_at : Determines print_kinds.ps print_kinds.r {I = List ℕ × ℕ} {A = ℕ} print_reads.Asked print_reads.Learnt
    (λ κs a. (a.0.now, a.1.0)) (λ κs z e. z)
determined-fingerprint_at = by print_kinds.ps print_kinds.r print_reads.Asked print_reads.Learnt _ _ (λ x. printed x.0 x.1) (λ κs a y d i q. q)
