use mathlib.Core.Path.{ap}
use Rattle.attribute.specs.SaidLaws.{walk_one}
use Rattle.attribute.proofs.Stops.{stops}
use Rattle.read_first.specs.First.{first_said}
use Rattle.read_first.proofs.Searching.{start, less, turn, found, none_left}
use Rattle.read_first.proofs.search.Goals as goal

pub loop-k-init : goal.loop-k-init
loop-k-init c = start _ _

pub returns-in_default : goal.returns-in_default
returns-in_default c = ap first_said (search (none_left, stops, c.in_default.not-Attribute, walk_one))

pub returns-then-k-kind : goal.returns-then-k-kind
returns-then-k-kind c = ap first_said (search (found, walk_one))

pub loop-k-smaller : goal.loop-k-smaller
loop-k-smaller c = search (less, walk_one)

pub loop-k-preserved : goal.loop-k-preserved
loop-k-preserved c = search (turn, walk_one)
