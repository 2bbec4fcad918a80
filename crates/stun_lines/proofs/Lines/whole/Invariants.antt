use Rattle.std.proofs.Common.{length, ◌≤◌}
use Rattle.stun_lines.proofs.Lines.whole.Given as goal

abbrev pub invariant-loop-size : goal.invariant-loop-size
invariant-loop-size l = length l.rest ≤ length l.s

abbrev pub decreases-loop-size : goal.decreases-loop-size
decreases-loop-size l = length l.rest
