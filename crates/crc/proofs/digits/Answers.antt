use Rattle.std.proofs.Common.{◌-◌, arith}
use Rattle.crc.proofs.Multiplied.{left_nought, left_done}
use Rattle.crc.proofs.digits.Goals as goal

pub returns-then-s-eq0 : goal.returns-then-s-eq0
returns-then-s-eq0 c = search (left_nought)

pub returns : goal.returns
returns c = left_done c.loop.invariant (omega arith)
