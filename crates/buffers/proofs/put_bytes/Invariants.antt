use Rattle.base.specs.LaidLaws.{Laying}
use Rattle.buffers.proofs.put_bytes.Given as goal

abbrev pub invariant-loop-j : goal.invariant-loop-j
invariant-loop-j l = Laying l.fn.buf l.src l.at l.buf l.j
