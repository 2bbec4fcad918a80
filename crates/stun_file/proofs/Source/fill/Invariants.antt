use Rattle.std.proofs.Common.{◌-◌, ◌≤◌}
use Rattle.stun_file.proofs.Source.fill.Given as goal

abbrev pub invariant-loop-have : goal.invariant-loop-have
invariant-loop-have g l = l.have ≤ 65600

abbrev pub decreases-loop-have : goal.decreases-loop-have
decreases-loop-have g l = 65600 - l.have
