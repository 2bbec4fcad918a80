-- The contract of each public call determines its answer.
use Rattle.std.proofs.Common.{ℕ, List}
use Rattle.base.specs.DeterminedLaws.{by}
use Rattle.base.specs.Determined.{Determines}
use Rattle.crc.specs.Crc.{bytes_from, finished, crc32_of}
use Rattle.crc32.proofs.update.Kinds as update_kinds
use Rattle.crc32.proofs.update.Reads as update_reads
use Rattle.crc32.proofs.finish.Kinds as finish_kinds
use Rattle.crc32.proofs.finish.Reads as finish_reads
use Rattle.crc32.proofs.crc32.Kinds as crc32_kinds
use Rattle.crc32.proofs.crc32.Reads as crc32_reads

pub determined-update : Determines update_kinds.ps update_kinds.r {I = ℕ × List ℕ} {A = ℕ} update_reads.Asked update_reads.Learnt
    (λ κs a. (a.0, a.1.0.now)) (λ κs z e. z)
determined-update = by update_kinds.ps update_kinds.r update_reads.Asked update_reads.Learnt _ _ (λ x. bytes_from x.0 x.1) (λ κs a y d i q. q)

pub determined-finish : Determines finish_kinds.ps finish_kinds.r {I = ℕ} {A = ℕ} finish_reads.Asked finish_reads.Learnt (λ κs a. a.0) (λ κs z e. z)
determined-finish = by finish_kinds.ps finish_kinds.r finish_reads.Asked finish_reads.Learnt _ _ finished (λ κs a y d i q. q)

pub determined-crc32 : Determines crc32_kinds.ps crc32_kinds.r {I = List ℕ} {A = ℕ} crc32_reads.Asked crc32_reads.Learnt (λ κs a. a.0.now) (λ κs z e. z)
determined-crc32 = by crc32_kinds.ps crc32_kinds.r crc32_reads.Asked crc32_reads.Learnt _ _ crc32_of (λ κs a y d i q. q)
