use Rattle.hmac.proofs.Keys.{behind}
use Rattle.hmac.proofs.outer.Goals as goal

pub returns : goal.returns
returns c = search (behind)
