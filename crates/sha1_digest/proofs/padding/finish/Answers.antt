use Rattle.sha1_digest.proofs.Padded.{digested}
use Rattle.sha1_digest.proofs.padding.finish.Goals as goal

pub returns : goal.returns
returns c = search (digested)
