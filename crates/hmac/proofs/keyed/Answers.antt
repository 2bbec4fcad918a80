use Rattle.hmac.proofs.Keys.{keyed_by}
use Rattle.hmac.proofs.keyed.Goals as goal

pub returns : goal.returns
returns c = search (keyed_by)
