use Rattle.read_integrity.proofs.Checking.{right, wrong}
use Rattle.read_integrity.proofs.compare.Goals as goal

pub returns-then-same_digest : goal.returns-then-same_digest
returns-then-same_digest c = search (right, wrong)

pub returns : goal.returns
returns c = search (right, wrong)
