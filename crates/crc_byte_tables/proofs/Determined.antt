-- The contract of each public call determines its answer.
use Rattle.std.proofs.Common.{ℕ, List}
use Rattle.base.specs.DeterminedLaws.{by}
use Rattle.base.specs.Determined.{Determines}
use Rattle.crc_byte_tables.specs.Tables.{byte_rows, four_by, eight_by}
use Rattle.crc_byte_tables.proofs.four_by.Kinds as four_by_kinds
use Rattle.crc_byte_tables.proofs.four_by.Reads as four_by_reads
use Rattle.crc_byte_tables.proofs.eight_by.Kinds as eight_by_kinds
use Rattle.crc_byte_tables.proofs.eight_by.Reads as eight_by_reads
use Rattle.crc_byte_tables.proofs.byte_rows.Kinds as byte_rows_kinds
use Rattle.crc_byte_tables.proofs.byte_rows.Reads as byte_rows_reads

pub determined-four_by : Determines four_by_kinds.ps four_by_kinds.r {I = List ℕ × ℕ} {A = ℕ} four_by_reads.Asked four_by_reads.Learnt
    (λ κs a. (a.0.now, a.1.0)) (λ κs z e. z)
determined-four_by = by four_by_kinds.ps four_by_kinds.r four_by_reads.Asked four_by_reads.Learnt _ _ (λ x. four_by x.0 x.1) (λ κs a y d i q. q)

pub determined-eight_by : Determines eight_by_kinds.ps eight_by_kinds.r {I = List ℕ × ℕ} {A = ℕ} eight_by_reads.Asked eight_by_reads.Learnt
    (λ κs a. (a.0.now, a.1.0)) (λ κs z e. z)
determined-eight_by = by eight_by_kinds.ps eight_by_kinds.r eight_by_reads.Asked eight_by_reads.Learnt _ _ (λ x. eight_by x.0 x.1) (λ κs a y d i q. q)

pub determined-byte_rows : Determines byte_rows_kinds.ps byte_rows_kinds.r {I = ℕ} {A = List ℕ} byte_rows_reads.Asked byte_rows_reads.Learnt (λ κs a. 0) (λ κs z e. z)
determined-byte_rows = by byte_rows_kinds.ps byte_rows_kinds.r byte_rows_reads.Asked byte_rows_reads.Learnt _ _ (λ x. byte_rows 2048) (λ κs a y d i q. q)
