use Rattle.std.proofs.Common.{◌-◌}
use Rattle.read_fingerprints.proofs.Runs.{Worded}
use Rattle.read_fingerprints.proofs.words.Given as goal

abbrev pub invariant-loop-at : goal.invariant-loop-at
invariant-loop-at l = Worded l.d l.length l.p l.at l.sum l.power

abbrev pub decreases-loop-at : goal.decreases-loop-at
decreases-loop-at l = l.p - l.at
