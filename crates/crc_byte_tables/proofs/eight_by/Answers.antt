use Rattle.crc_byte_tables.proofs.Making.{eight_none, eight_many}
use Rattle.crc_byte_tables.proofs.eight_by.Goals as goal

pub returns-then-t-lt2048 : goal.returns-then-t-lt2048
returns-then-t-lt2048 c = search (eight_none)

pub returns : goal.returns
returns c = search (eight_many)
