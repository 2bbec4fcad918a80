use Rattle.std.proofs.Common.{◌-◌, length}
use Rattle.attribute.specs.Scanning.{Scanning}
use Rattle.read_fingerprints.specs.Fingerprints.{print_faults, on_from}
use Rattle.read_fingerprints.specs.Running.{Ran}
use Rattle.read_fingerprints.proofs.judge_each.Given as goal

abbrev pub invariant-loop-kind : goal.invariant-loop-kind
invariant-loop-kind l = Scanning (print_faults l.d) l.d l.at l.count (on_from l.d l.from l.before) × Ran l.d l.run l.at

abbrev pub decreases-loop-kind : goal.decreases-loop-kind
decreases-loop-kind l = length l.d - l.at
