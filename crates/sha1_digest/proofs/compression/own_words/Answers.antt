use Rattle.std.proofs.Common.{rules}
use Rattle.sha1_digest.proofs.Words.{loading_start, loading_turn, loading_done}
use Rattle.sha1_digest.proofs.compression.own_words.Goals as goal

pub loop-t-init : goal.loop-t-init
loop-t-init c = search (loading_start)

pub loop-t-preserved : goal.loop-t-preserved
loop-t-preserved c = search (rules, loading_turn)

pub returns : goal.returns
returns c = search (rules, loading_done)
