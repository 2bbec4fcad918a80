use Rattle.std.proofs.Common.{rules}
use Rattle.utf8.proofs.Walk.{on_later, on_ones, past_one}
use Rattle.utf8.proofs.past_ascii.Goals as goal

pub returns-then-s-from-ge128 : goal.returns-then-s-from-ge128
returns-then-s-from-ge128 c = search (past_one)

pub loop-j-2-init : goal.loop-j-2-init
loop-j-2-init c = (search rules, search (on_ones 8))

pub loop-j-2-preserved : goal.loop-j-2-preserved
loop-j-2-preserved c = (search rules, on_ones 32 c.loop-j-2.invariant.1 c.ascii_32.ensures c.if-ascii_32.true)

pub loop-j-3-preserved : goal.loop-j-3-preserved
loop-j-3-preserved c = search (on_later)
