use Rattle.sha1_digest.proofs.Words.{Loading}
use Rattle.sha1_digest.proofs.compression.own_words.Given as goal

abbrev pub invariant-loop-t : goal.invariant-loop-t
invariant-loop-t l = Loading l.block l.w l.t
