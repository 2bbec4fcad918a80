-- The table of half bytes passes the test of its rule.
use Rattle.std.proofs.Common.{rules}
use Rattle.crc.specs.Crc.{bit_step, bit_steps}
use Rattle.crc_nibbles.specs.RowsLaws.{rows}
use Rattle.crc_byte_tables.proofs.TablesLaws.{rows_steps}
use Rattle.read_fingerprints.proofs.judge_few.Goals as goal

pub invariant_of-judge_each : goal.invariant_of-judge_each
unfolding bit_steps bit_step
invariant_of-judge_each c = record { steps = rows_steps _ (rows _ tt) (search rules) }
