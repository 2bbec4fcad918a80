use Rattle.std.specs.Prelude.{◌-◌, length}
use Rattle.write_plan.proofs.Fronts.{Walking}
use Rattle.write_plan.proofs.covered.Given as goal

abbrev pub invariant-loop-next : goal.invariant-loop-next
invariant-loop-next l = Walking l.m l.at

abbrev pub decreases-loop-next : goal.decreases-loop-next
decreases-loop-next l = length l.m - l.at
