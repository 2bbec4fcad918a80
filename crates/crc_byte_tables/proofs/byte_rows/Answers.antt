use Rattle.std.proofs.Common.{rules}
use Rattle.crc_byte_tables.proofs.Making.{first_row}
use Rattle.crc_byte_tables.proofs.byte_rows.Goals as goal

pub more_rows-requires : goal.more_rows-requires
more_rows-requires c =
    first_row c.from_fn.result c.from_fn.ensures.items.long (λ i h. let call = c.from_fn.ensures.items.at i 0 h in search (rules, call.2.met))
