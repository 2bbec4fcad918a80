use Rattle.std.specs.Slice.Iter.{iter_rest}
use Rattle.hmac.proofs.Comparison.{Comparing}
use Rattle.hmac.proofs.digests.same_digest.Given as goal

abbrev pub invariant-loop-x : goal.invariant-loop-x
invariant-loop-x l = Comparing l.fn.a l.b l.differing (iter_rest l.x-iterator.a) (iter_rest l.x-iterator.b)
