use Rattle.std.proofs.Common.{arith, sym}
use Rattle.net.specs.NetLaws.{xored_nil}
use Rattle.net.proofs.Xoring.{turn, done}
use Rattle.net.proofs.xor_bytes.Goals as goal

pub loop-i-init : goal.loop-i-init
loop-i-init c = sym (xored_nil _)

pub loop-i-preserved : goal.loop-i-preserved
loop-i-preserved c = turn _ _ c.loop-i.invariant (omega arith)

pub returns : goal.returns
returns c = done _ _ c.loop-i.invariant (omega arith)
