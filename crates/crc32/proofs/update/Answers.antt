-- The small table passes the test of its rule.
use Rattle.std.proofs.Common.{◌∙◌, rules}
use Rattle.crc.specs.Crc.{bit_step, bit_steps}
use Rattle.crc_nibbles.specs.RowsLaws.{rows, bytes_halves_lem}
use Rattle.crc32.proofs.update.Goals as goal

pub returns-then-s-lt8 : goal.returns-then-s-lt8
unfolding bit_steps bit_step
returns-then-s-lt8 c = c.bytes.ensures ∙ bytes_halves_lem _ (rows _ tt) (search rules) _ _
