use Rattle.std.proofs.Common.{length}
use Rattle.vectors_of_sums.proofs.utf8_vectors.each.Given as goal

abbrev pub decreases-loop-rest : goal.decreases-loop-rest
decreases-loop-rest l = length l.rest
