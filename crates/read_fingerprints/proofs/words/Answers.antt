use Rattle.read_fingerprints.proofs.Runs.{worded_start, worded_turn, worded_done}
use Rattle.std.proofs.Common.{rules}
use Rattle.read_fingerprints.proofs.words.Goals as goal

pub loop-at-init : goal.loop-at-init
loop-at-init c = search (worded_start)

pub loop-at-preserved : goal.loop-at-preserved
loop-at-preserved c =
    worded_turn _ _ (search rules) (search rules) (search rules) c.loop-at.invariant (search rules)
    (search rules) c.low_word.ensures c.four_by-sum.ensures c.four_by-power.ensures

pub returns : goal.returns
returns c = search (worded_done)
