use Rattle.read_fingerprints.proofs.Runs.{relength_is}
use Rattle.read_fingerprints.proofs.relength.Goals as goal

pub returns : goal.returns
returns c = search (relength_is)
