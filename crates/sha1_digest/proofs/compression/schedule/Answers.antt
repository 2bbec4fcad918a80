use Rattle.sha1_digest.proofs.Words.{whole}
use Rattle.sha1_digest.proofs.compression.schedule.Goals as goal

pub returns : goal.returns
returns c = search (whole)
