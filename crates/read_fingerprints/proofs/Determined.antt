-- The contract of the public call determines what it answers.
use Rattle.std.proofs.Common.{ℕ, List}
use Rattle.attribute.specs.Scan.{Scan}
use Rattle.base.specs.DeterminedLaws.{by}
use Rattle.base.specs.Determined.{Determines}
use Rattle.attribute.specs.SaidLaws.{scan_one}
use Rattle.read_fingerprints.specs.Fingerprints.{prints_from}
use Rattle.read_fingerprints.proofs.prints_from.Kinds as prints_kinds
use Rattle.read_fingerprints.proofs.prints_from.Reads as prints_reads

pub determined-prints_from : Determines prints_kinds.ps prints_kinds.r {I = List ℕ × ℕ × ℕ} {A = Scan} prints_reads.Asked prints_reads.Learnt
    (λ κs a. (a.0.now, a.1.0, a.1.1.0)) (λ κs z e. z)
determined-prints_from =
    by prints_kinds.ps prints_kinds.r prints_reads.Asked prints_reads.Learnt _ _ (λ x. prints_from x.0 x.1 x.2) (λ κs a y d i q. scan_one q)
