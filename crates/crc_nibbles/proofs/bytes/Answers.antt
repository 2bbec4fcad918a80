use Rattle.crc_nibbles.proofs.Halves.{bytes_none, byted_turn, byted_done}
use Rattle.crc_nibbles.proofs.bytes.Goals as goal

pub returns-then-t-lt32 : goal.returns-then-t-lt32
returns-then-t-lt32 c = search (bytes_none)

pub loop-b-preserved : goal.loop-b-preserved
loop-b-preserved c = search (byted_turn)

pub returns : goal.returns
returns c = search (byted_done)
