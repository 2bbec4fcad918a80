use Rattle.std.proofs.Common.{◌-◌}
use Rattle.sha1_digest.proofs.Words.{Extending}
use Rattle.sha1_digest.proofs.compression.sixteen_more.Given as goal

abbrev pub invariant-loop-i : goal.invariant-loop-i
invariant-loop-i l = Extending l.initial.w l.from l.w l.i

abbrev pub decreases-loop-i : goal.decreases-loop-i
decreases-loop-i l = 16 - l.i
