use Rattle.sha1_digest.proofs.Words.{extending_start, extending_turn, extending_done}
use Rattle.sha1_digest.proofs.compression.sixteen_more.Goals as goal

pub loop-i-init : goal.loop-i-init
loop-i-init c = search (extending_start)

pub loop-i-preserved : goal.loop-i-preserved
loop-i-preserved c = search (extending_turn)

pub returns : goal.returns
returns c = search (extending_done)
