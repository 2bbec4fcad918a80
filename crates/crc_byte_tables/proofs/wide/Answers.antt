use Rattle.crc_byte_tables.proofs.Making.{bytes_are}
use Rattle.crc_byte_tables.proofs.wide.Goals as goal

pub returns : goal.returns
returns c = search (bytes_are)
