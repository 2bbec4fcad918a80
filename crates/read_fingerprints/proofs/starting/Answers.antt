use Rattle.read_fingerprints.specs.FingerprintsLaws.{in_header, outside, too_many, from_there}
use Rattle.read_fingerprints.proofs.Scans.{start, start_first}
use Rattle.read_fingerprints.proofs.starting.Goals as goal
use Rattle.read_fingerprints.proofs.starting.Goals.{then-from-lt20-via-then-from-lt20, then-from-lt20-via-else-from-lt20+then-d-from, then-from-lt20-via-else-from-lt20+else-d-from+then-from-before}

pub returns-then-from-lt20 : goal.returns-then-from-lt20
returns-then-from-lt20 c =
    elim c.then-from-lt20.branch [
      | then-from-lt20-via-then-from-lt20 w ↦ search (start_first, in_header)
      | then-from-lt20-via-else-from-lt20+then-d-from w ↦ search (start_first, outside)
      | then-from-lt20-via-else-from-lt20+else-d-from+then-from-before w ↦ search (start_first, too_many)
    ]

pub returns : goal.returns
returns c = search (start, from_there)
