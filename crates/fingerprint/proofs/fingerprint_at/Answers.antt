use Rattle.fingerprint.proofs.Sums.{in_header, behind, too_far, there}
use Rattle.fingerprint.proofs.fingerprint_at.Goals as goal
use Rattle.fingerprint.proofs.fingerprint_at.Goals.{then-p-lt20-via-then-p-lt20, then-p-lt20-via-else-p-lt20+then-d-p, then-p-lt20-via-else-p-lt20+else-d-p+then-p-gt65535}

pub returns-then-p-lt20 : goal.returns-then-p-lt20
returns-then-p-lt20 c =
    elim c.then-p-lt20.branch [
      | then-p-lt20-via-then-p-lt20 w ↦ search (in_header)
      | then-p-lt20-via-else-p-lt20+then-d-p w ↦ search (behind)
      | then-p-lt20-via-else-p-lt20+else-d-p+then-p-gt65535 w ↦ search (too_far)
    ]

pub returns : goal.returns
returns c = search (there)
