-- The table passes the test of its rule.
use Rattle.std.proofs.Common.{rules}
use Rattle.crc.specs.Crc.{bit_step, bit_steps}
use Rattle.crc_nibbles.specs.RowsLaws.{rows}
use Rattle.crc_folds.proofs.by_words.Goals as goal

pub words-requires : goal.words-requires
unfolding bit_steps bit_step
words-requires c = (rows _ tt, search rules)
