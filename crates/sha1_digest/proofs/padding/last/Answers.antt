use Rattle.sha1_digest.proofs.Padded.{last_one, last_two}
use Rattle.sha1_digest.proofs.padding.last.Goals as goal

pub returns-then-k-lt56 : goal.returns-then-k-lt56
returns-then-k-lt56 c = search (last_one)

pub returns-else-k-lt56 : goal.returns-else-k-lt56
returns-else-k-lt56 c = search (last_two)
