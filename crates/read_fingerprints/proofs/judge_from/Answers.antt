use Rattle.std.proofs.Common.{rules}
use Rattle.crc_byte_tables.proofs.TablesLaws.{byte_steps}
use Rattle.read_fingerprints.proofs.judge_from.Goals as goal

pub invariant_of-judge_each-2 : goal.invariant_of-judge_each-2
invariant_of-judge_each-2 c = record { steps = byte_steps _ (search rules) }
