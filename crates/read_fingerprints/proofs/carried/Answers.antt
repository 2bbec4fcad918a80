use Rattle.read_fingerprints.proofs.Runs.{carried_is}
use Rattle.read_fingerprints.proofs.carried.Goals as goal

pub returns : goal.returns
returns c = search (carried_is)
