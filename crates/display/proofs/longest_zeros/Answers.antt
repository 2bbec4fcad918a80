use Rattle.std.proofs.Common.{arith}
use Rattle.display.proofs.Runs.{turn, none, some}
use Rattle.display.proofs.longest_zeros.Goals as goal

pub loop-i-preserved : goal.loop-i-preserved
loop-i-preserved c = turn _ _ c.loop-i.invariant c.loop-i-test.true c.zeros-n.ensures c.better-best.ensures

pub returns-then-best-lt2 : goal.returns-then-best-lt2
returns-then-best-lt2 c = none _ _ c.loop-i.invariant (omega arith) c.if-best-lt2.true

pub returns : goal.returns
returns c = some _ _ c.loop-i.invariant (omega arith) c.if-best-lt2.false
