use Rattle.hmac.proofs.Keys.{Xoring}
use Rattle.hmac.proofs.xored.Given as goal

abbrev pub invariant-loop-b : goal.invariant-loop-b
invariant-loop-b l = Xoring l.fn.k l.x l.b-items l.b-index
