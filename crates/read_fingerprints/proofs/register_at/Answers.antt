use Rattle.read_fingerprints.proofs.Runs.{begun_ran, begun_far, arrived, there}
use Rattle.std.proofs.Common.{rules}
use Rattle.read_fingerprints.proofs.register_at.Goals as goal

pub carried-requires : goal.carried-requires
carried-requires c = (search (begun_ran), search (begun_far), search rules)

pub returns-then-run-lt4 : goal.returns-then-run-lt4
returns-then-run-lt4 c = (search (arrived), search (there))

pub returns-then-p-run-gt64 : goal.returns-then-p-run-gt64
returns-then-p-run-gt64 c = (search (arrived), search (there))
