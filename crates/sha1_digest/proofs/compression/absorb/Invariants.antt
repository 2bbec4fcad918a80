use Rattle.std.proofs.Common.{◌≡◌, length}
use Rattle.sha1_digest.specs.Compression.{run}
use Rattle.sha1_digest.proofs.compression.absorb.Given as goal

abbrev pub invariant-loop-block : goal.invariant-loop-block
invariant-loop-block l = run l.t l.g ≡ run l.s l.fn.h

abbrev pub decreases-loop-block : goal.decreases-loop-block
decreases-loop-block l = length l.t
