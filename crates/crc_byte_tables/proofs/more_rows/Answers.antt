use Rattle.std.proofs.Common.{◌∙◌, refl, replicate, rules}
use Rattle.crc_byte_tables.proofs.Making.{more_start, more_turn}
use Rattle.crc_byte_tables.proofs.more_rows.Goals as goal

pub loop-i-init : goal.loop-i-init
loop-i-init c = (more_start (replicate 2048 0) refl (c.copy_from_slice.ensures.after ∙ c.requires), search rules)

pub loop-i-preserved : goal.loop-i-preserved
loop-i-preserved c = (search (more_turn), search rules)
