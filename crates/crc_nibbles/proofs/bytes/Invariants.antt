use Rattle.crc_nibbles.proofs.Halves.{Byted}
use Rattle.crc_nibbles.proofs.bytes.Given as goal

abbrev pub invariant-loop-b : goal.invariant-loop-b
invariant-loop-b l = Byted l.t l.c l.s l.r l.b-index
