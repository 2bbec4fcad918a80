use Rattle.hmac.proofs.Front.{relabelled}
use Rattle.hmac.proofs.relabelled.Goals as goal

pub returns : goal.returns
returns c = search (relabelled)
