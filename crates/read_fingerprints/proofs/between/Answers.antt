use Rattle.read_fingerprints.proofs.Runs.{arrived, there}
use Rattle.read_fingerprints.proofs.between.Goals as goal

pub returns : goal.returns
returns c = (search (arrived), search (there))
