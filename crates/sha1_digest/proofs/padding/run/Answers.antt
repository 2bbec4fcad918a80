use Rattle.sha1_digest.proofs.Padded.{ran}
use Rattle.sha1_digest.proofs.padding.run.Goals as goal

pub returns : goal.returns
returns c = search (ran)
