use Rattle.read_fingerprints.proofs.Runs.{sum_is, sum_ran}
use Rattle.std.proofs.Common.{rules}
use Rattle.read_fingerprints.proofs.sum_at.Goals as goal

pub returns : goal.returns
returns c = record { value = search (sum_is, rules); run = search (sum_ran, rules) }
