-- Each byte by the rows of its place.
use Rattle.crc_nibbles.proofs.Halves.{four_none, four_are}
use Rattle.crc_nibbles.proofs.four.Goals as goal

pub returns-then-t-lt128 : goal.returns-then-t-lt128
returns-then-t-lt128 c = search (four_none)

pub returns : goal.returns
returns c = search (four_are)
