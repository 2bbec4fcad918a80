use Rattle.std.proofs.Common.{arith}
use Rattle.sha1_digest.proofs.Taken.{taking_turn, taking_done}
use Rattle.sha1_digest.proofs.compression.absorb.Goals as goal

pub loop-block-preserved : goal.loop-block-preserved
loop-block-preserved c =
    let parts = c.in-Some.ensures.cases in
    taking_turn c.args.s.now c.loop-block.t.now c.args.h c.loop-block.g c.loop-block.invariant (omega (arith, parts.2)) parts.0 parts.1 c.compress-g.ensures

pub returns : goal.returns
returns c = taking_done c.args.s.now c.loop-block.t.now c.args.h c.loop-block.g c.loop-block.invariant c.in_default.ensures.cases
