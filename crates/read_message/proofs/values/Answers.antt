use Rattle.std.proofs.Common.{rules, sym, arith, ◌+◌}
use Rattle.attribute.proofs.ScanLaws.{start, passed, cut, within, less}
use Rattle.attribute.specs.SaidLaws.{walk_one}
use Rattle.attribute.proofs.Stops.{stops}
use Rattle.read_message.proofs.Fronts.{onward, front_turn}
use Rattle.read_message.proofs.Scans.{value_on, value_decides}
use Rattle.read_message.proofs.values.Goals as goal

pub loop-kind-init : goal.loop-kind-init
loop-kind-init c = ((0, start _ _ c.requires), start _ _ c.requires)

pub returns-then-at-d : goal.returns-then-at-d
returns-then-at-d c = let (n, g) = c.loop-kind.invariant.0 in ((n, sym (passed g c.if-at-d.true)), search rules)

pub returns-in_default : goal.returns-in_default
returns-in_default c = let (n, g) = c.loop-kind.invariant.0 in sym (search (cut, g, stops, c.in_default.not-Attribute, walk_one))

pub returns-in-Err : goal.returns-in-Err
returns-in-Err c = let (n, g) = c.loop-kind.invariant.0 in search (value_decides, g, walk_one)

pub past-front-requires : goal.past-front-requires
past-front-requires c = (search rules, search (onward, walk_one))

pub loop-kind-preserved : goal.loop-kind-preserved
loop-kind-preserved c = let (n, g) = c.loop-kind.invariant.0 in ((n + 1, search (value_on, g, walk_one)), search (front_turn, walk_one))

pub loop-kind-smaller : goal.loop-kind-smaller
loop-kind-smaller c = let (n, g) = c.loop-kind.invariant.0 in search (less, g, walk_one)

pub overflow_add-value : goal.overflow_add-value
overflow_add-value c = omega (arith, within c.loop-kind.invariant.0.1 c.in-Attribute.is (walk_one c.step.ensures))

pub slice_bounds-fault-end : goal.slice_bounds-fault-end
slice_bounds-fault-end c = let (n, g) = c.loop-kind.invariant.0 in search (within, g, walk_one)
