use Rattle.std.proofs.Common.{length, ◌-◌}
use Rattle.utf8.specs.Steps.{On}
use Rattle.utf8.proofs.past.Given as goal

abbrev pub invariant-loop-j : goal.invariant-loop-j
invariant-loop-j g l = On l.s l.from l.j

abbrev pub decreases-loop-j : goal.decreases-loop-j
decreases-loop-j g l = length l.s - l.j
