use Rattle.sha1_digest.proofs.Twenties.{Turning}
use Rattle.sha1_digest.proofs.compression.twenty.Given as goal

abbrev pub invariant-loop-x : goal.invariant-loop-x
invariant-loop-x g l = Turning l.w g.row.FROM l.fn.h l.s l.x-index
