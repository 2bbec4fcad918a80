use Rattle.hmac.proofs.Front.{part, all}
use Rattle.hmac.proofs.hmac_front.Goals as goal

pub returns-then-p-d : goal.returns-then-p-d
returns-then-p-d c = search (part)

pub returns-else-p-d : goal.returns-else-p-d
returns-else-p-d c = search (all)
