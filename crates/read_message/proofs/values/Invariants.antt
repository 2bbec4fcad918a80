use Rattle.std.specs.Prelude.{ℕ, ◌-◌, length}
use Rattle.attribute.specs.Scan.{scanned}
use Rattle.attribute.specs.Scanning.{Scanning}
use Rattle.registry.specs.Rows.{rfc5389}
use Rattle.read_fingerprints.specs.Fingerprints.{print_faults}
use Rattle.read_message.specs.Reading.{value_faults}
use Rattle.read_message.proofs.values.Given as goal

abbrev pub invariant-loop-kind : goal.invariant-loop-kind
invariant-loop-kind l =
    ((n : ℕ) × Scanning (value_faults rfc5389) l.d l.at n (scanned (value_faults rfc5389) l.d))
    × Scanning (print_faults l.d) l.d l.front.at l.front.count (scanned (print_faults l.d) l.d)

abbrev pub decreases-loop-kind : goal.decreases-loop-kind
decreases-loop-kind l = length l.d - l.at
