use Rattle.read_fingerprints.proofs.Runs.{register_for_is}
use Rattle.read_fingerprints.proofs.register_for.Goals as goal

pub returns : goal.returns
returns c = search (register_for_is)
