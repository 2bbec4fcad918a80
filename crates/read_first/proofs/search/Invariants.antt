use Prim.Native.Nat.{◌-◌}
use lib.ListN.{length}
use Rattle.read_first.proofs.Searching.{Searching}
use Rattle.read_first.proofs.search.Given as goal

abbrev pub invariant-loop-k : goal.invariant-loop-k
invariant-loop-k l = Searching l.d l.kind l.at

abbrev pub decreases-loop-k : goal.decreases-loop-k
decreases-loop-k l = length l.d - l.at
