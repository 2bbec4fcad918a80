use Rattle.std.proofs.Common.{length, ◌-◌, ◌≤◌}
use Rattle.utf8.specs.Steps.{On}
use Rattle.utf8.proofs.past_ascii.Given as goal

abbrev pub invariant-loop-j-2 : goal.invariant-loop-j-2
invariant-loop-j-2 l = (l.initial.j ≤ l.j) × On l.s l.from l.j

abbrev pub decreases-loop-j-2 : goal.decreases-loop-j-2
decreases-loop-j-2 l = length l.s - l.j

abbrev pub invariant-loop-j : goal.invariant-loop-j
invariant-loop-j l = On l.s l.from l.j

abbrev pub decreases-loop-j : goal.decreases-loop-j
decreases-loop-j l = length l.s - l.j

abbrev pub invariant-loop-j-3 : goal.invariant-loop-j-3
invariant-loop-j-3 l = On l.s l.from l.j

abbrev pub decreases-loop-j-3 : goal.decreases-loop-j-3
decreases-loop-j-3 l = length l.s - l.j
