use Rattle.std.proofs.Common.{rules}
use Rattle.hmac.proofs.Keys.{xoring_turn, xoring_done}
use Rattle.hmac.proofs.xored.Goals as goal

pub loop-b-preserved : goal.loop-b-preserved
loop-b-preserved c = search (rules, xoring_turn)

pub returns : goal.returns
returns c = search (rules, xoring_done)
