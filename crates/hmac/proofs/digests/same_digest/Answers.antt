use Rattle.std.proofs.Common.{rules, arith, take_all}
use Rattle.std.proofs.lemmas.Slice.Zip.{Zip-more, either_empty_from_Zip}
use Rattle.hmac.proofs.Comparison.{comparing_start, comparing_turn, comparing_done, sizes_differ}
use Rattle.hmac.proofs.digests.same_digest.Goals as goal

pub returns-then-b-ne20 : goal.returns-then-b-ne20
returns-then-b-ne20 c = search (sizes_differ)

-- `take_all` is for a body that takes the first twenty bytes of b: those are b, so it is as right, and one that takes nineteen fails at the sizes.
pub loop-x-init : goal.loop-x-init
loop-x-init c = search (rules, comparing_start, take_all 20 c.args.b.now (omega arith))

pub loop-x-preserved : goal.loop-x-preserved
loop-x-preserved c =
    let heads = Zip-more c.loop-x.x-iterator c.next.new.self _ _ c.in-Some.is c.next.ensures.steps in
    comparing_turn c.loop-x.invariant heads.0 heads.1

pub returns : goal.returns
returns c = comparing_done c.loop-x.invariant (either_empty_from_Zip c.loop-x.x-iterator c.next.new.self _ c.in-None.is c.next.ensures.steps)
