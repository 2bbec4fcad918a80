use Rattle.read_fingerprints.proofs.Runs.{adjacent_is}
use Rattle.std.proofs.Common.{rules}
use Rattle.read_fingerprints.proofs.adjacent.Goals as goal

pub returns : goal.returns
returns c = (search (adjacent_is), search rules)
