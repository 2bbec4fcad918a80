use Rattle.sha1_digest.proofs.Whole.{hashed}
use Rattle.sha1_digest.proofs.hash.Goals as goal

pub returns : goal.returns
returns c = search (hashed)
