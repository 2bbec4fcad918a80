use Rattle.attribute.specs.SaidLaws.{walk_one}
use Rattle.attribute.proofs.Stops.{stops}
use Rattle.write_plan.proofs.Fronts.{turn, less, ends}
use Rattle.write_plan.proofs.covered.Goals as goal

pub loop-next-smaller : goal.loop-next-smaller
loop-next-smaller c = search (less, walk_one)

pub loop-next-preserved : goal.loop-next-preserved
loop-next-preserved c = search (turn, walk_one)

pub returns : goal.returns
returns c = search (ends, stops, c.in_default.not-Attribute, walk_one)
