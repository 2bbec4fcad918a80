use Rattle.std.proofs.Common.{length, ◌-◌}
use Rattle.utf8.specs.Steps.{On}
use Rattle.utf8.proofs.is_utf8.Given as goal

abbrev pub invariant-loop-i : goal.invariant-loop-i
invariant-loop-i l = On l.s 0 l.i

abbrev pub decreases-loop-i : goal.decreases-loop-i
decreases-loop-i l = length l.s - l.i
