use Rattle.read_fingerprints.proofs.Runs.{begun_is}
use Rattle.read_fingerprints.proofs.begun.Goals as goal

pub returns : goal.returns
returns c = search (begun_is)
