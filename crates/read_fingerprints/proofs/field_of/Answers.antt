use Rattle.std.proofs.Common.{rules}
use Rattle.read_fingerprints.proofs.Runs.{field_is}
use Rattle.read_fingerprints.proofs.field_of.Goals as goal

pub returns : goal.returns
returns c = search (rules, field_is)
