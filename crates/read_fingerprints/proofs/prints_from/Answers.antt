use Rattle.std.proofs.Common.{ap}
use Rattle.attribute.specs.Scan.{scan_said}
use Rattle.read_fingerprints.specs.FingerprintsLaws.{reaches}
use Rattle.read_fingerprints.proofs.Scans.{none_is}
use Rattle.read_fingerprints.proofs.prints_from.Goals as goal

pub returns-then-d-lt20 : goal.returns-then-d-lt20
returns-then-d-lt20 c = ap scan_said (search (none_is))

pub returns : goal.returns
returns c = ap scan_said (search (reaches))
