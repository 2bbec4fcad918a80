use Rattle.std.proofs.Common.{drop}
use Rattle.std.specs.Slice.Iter.{iter_rest}
use Rattle.utf8.proofs.Tails.{Standing}
use Rattle.utf8.proofs.stands.Given as goal

abbrev pub invariant-loop-b : goal.invariant-loop-b
invariant-loop-b g l = Standing l.row (drop l.at l.s) l.all (iter_rest l.b-iterator.a) (iter_rest l.b-iterator.b)
