-- The contract of the public call determines what it answers.
use Rattle.std.proofs.Common.{ℕ, List, Bool}
use Rattle.base.specs.DeterminedLaws.{by}
use Rattle.base.specs.Determined.{Determines}
use Rattle.utf8_spec.specs.Utf8.{is_utf8}
use Rattle.utf8_spec.specs.Points.{points}
use Rattle.utf8.proofs.is_utf8.Kinds as check_kinds
use Rattle.utf8.proofs.is_utf8.Reads as check_reads
use Rattle.utf8.proofs.points.code_points.Kinds as count_kinds
use Rattle.utf8.proofs.points.code_points.Reads as count_reads

pub determined-code_points : Determines count_kinds.ps count_kinds.r {I = List ℕ} {A = ℕ} count_reads.Asked count_reads.Learnt (λ κs a. a.0.now) (λ κs z e. z)
determined-code_points = by count_kinds.ps count_kinds.r count_reads.Asked count_reads.Learnt _ _ points (λ κs a y d i q. q)

pub determined-is_utf8 : Determines check_kinds.ps check_kinds.r {I = List ℕ} {A = Bool} check_reads.Asked check_reads.Learnt (λ κs a. a.0.now) (λ κs z e. z)
determined-is_utf8 = by check_kinds.ps check_kinds.r check_reads.Asked check_reads.Learnt _ _ is_utf8 (λ κs a y d i q. q)
