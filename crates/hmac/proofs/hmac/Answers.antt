use Rattle.hmac.proofs.Keys.{both}
use Rattle.hmac.proofs.hmac.Goals as goal

pub returns : goal.returns
returns c = search (both)
