use Rattle.std.proofs.Common.{◌≤◌}
use Rattle.stun_file.proofs.Source.text.Given as goal

abbrev pub invariant-loop : goal.invariant-loop
invariant-loop g l = l.n ≤ 65600
