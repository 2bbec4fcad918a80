-- The contract of `check_integrity` determines its answer.
use Rattle.std.specs.Prelude.{ℕ, List, Result}
use Rattle.base.specs.DeterminedLaws.{by}
use Rattle.base.specs.Determined.{Determines}
use Rattle.wire.specs.Refusal.{refused_by}
use Rattle.wire.specs.declared.refusal.Refusal.{Refusal}
use Rattle.registry.specs.Rows.{rfc5389}
use Rattle.read_integrity.specs.Integrity.{integrity_fault}
use Rattle.read_integrity.proofs.check_integrity.Kinds as check_kinds
use Rattle.read_integrity.proofs.check_integrity.Reads as check_reads

pub determined-check_integrity : Determines check_kinds.ps check_kinds.r {I = List ℕ × List ℕ} {A = Result Unit Refusal} check_reads.Asked check_reads.Learnt
    (λ κs a. (a.0.now, a.1.0.now)) (λ κs z e. z)
determined-check_integrity =
    by check_kinds.ps check_kinds.r check_reads.Asked check_reads.Learnt _ _ (λ x. refused_by (integrity_fault rfc5389 x.0 x.1)) (λ κs a y d i q. q)
