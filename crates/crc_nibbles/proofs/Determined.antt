-- The contract of each public call determines its answer.
use Rattle.std.proofs.Common.{ℕ, List}
use Rattle.base.specs.DeterminedLaws.{by}
use Rattle.base.specs.Determined.{Determines}
use Rattle.crc_nibbles.specs.Rows.{four_halves, bytes_halves}
use Rattle.crc_nibbles.proofs.four.Kinds as four_kinds
use Rattle.crc_nibbles.proofs.four.Reads as four_reads
use Rattle.crc_nibbles.proofs.bytes.Kinds as bytes_kinds
use Rattle.crc_nibbles.proofs.bytes.Reads as bytes_reads

pub determined-four : Determines four_kinds.ps four_kinds.r {I = List ℕ × ℕ} {A = ℕ} four_reads.Asked four_reads.Learnt (λ κs a. (a.0.now, a.1.0)) (λ κs z e. z)
determined-four = by four_kinds.ps four_kinds.r four_reads.Asked four_reads.Learnt _ _ (λ x. four_halves x.0 x.1) (λ κs a y d i q. q)

pub determined-bytes : Determines bytes_kinds.ps bytes_kinds.r {I = List ℕ × ℕ × List ℕ} {A = ℕ} bytes_reads.Asked bytes_reads.Learnt
    (λ κs a. (a.0.now, a.1.0, a.1.1.0.now)) (λ κs z e. z)
determined-bytes =
    by bytes_kinds.ps bytes_kinds.r bytes_reads.Asked bytes_reads.Learnt _ _ (λ x. bytes_halves x.0 x.1 x.2) (λ κs a y d i q. q)
