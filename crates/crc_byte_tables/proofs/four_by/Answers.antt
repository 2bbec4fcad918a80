use Rattle.crc_byte_tables.proofs.Making.{few, many}
use Rattle.crc_byte_tables.proofs.four_by.Goals as goal

pub returns-then-t-lt2048 : goal.returns-then-t-lt2048
returns-then-t-lt2048 c = search (few)

pub returns : goal.returns
returns c = search (many)
