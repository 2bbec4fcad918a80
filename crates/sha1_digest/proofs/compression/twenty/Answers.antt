use Rattle.std.proofs.Common.{arith}
use Rattle.sha1_digest.proofs.Twenties.{turning_start, turn, turning_done}
use Rattle.sha1_digest.proofs.compression.twenty.Goals as goal

pub loop-x-init : goal.loop-x-init
loop-x-init g c = search (turning_start)

pub loop-x-preserved : goal.loop-x-preserved
loop-x-preserved g c =
    let m = c.requires.mixes _ _ _ _ c.mix.ensures in
    turn c.loop-x.invariant (omega arith) c.requires.twenties.0 m c.requires.constant c.round-s.ensures

pub returns : goal.returns
returns g c = turning_done c.loop-x.invariant (omega arith)
