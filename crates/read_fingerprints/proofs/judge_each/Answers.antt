use Rattle.attribute.proofs.ScanLaws.{passed, cut, less}
use Rattle.attribute.specs.SaidLaws.{walk_one}
use Rattle.attribute.proofs.Stops.{stops}
use Rattle.read_fingerprints.proofs.Runs.{unbegun}
use Rattle.read_fingerprints.proofs.Scans.{start, print_room, print_on, print_decides, ran_on}
use Rattle.std.proofs.Common.{refl, rules}
use Rattle.read_fingerprints.proofs.judge_each.Goals as goal

pub loop-kind-init : goal.loop-kind-init
loop-kind-init c = (start _ _ _ (search rules) (search rules) (search rules) refl, search (unbegun))

pub returns-then-at-d : goal.returns-then-at-d
returns-then-at-d c = search (passed)

pub returns-in_default : goal.returns-in_default
returns-in_default c = search (cut, stops, c.in_default.not-Attribute, walk_one)

pub print_fault-requires : goal.print_fault-requires
print_fault-requires c = (search rules, search rules, search (print_room, walk_one))

pub returns-in-Err : goal.returns-in-Err
returns-in-Err c = search (print_decides, walk_one)

pub loop-kind-smaller : goal.loop-kind-smaller
loop-kind-smaller c = search (less, walk_one)

pub loop-kind-preserved : goal.loop-kind-preserved
loop-kind-preserved c = (search (print_on, walk_one), search (ran_on, walk_one))
