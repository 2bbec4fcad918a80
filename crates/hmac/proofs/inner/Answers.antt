use Rattle.hmac.proofs.Front.{short, long}
use Rattle.hmac.proofs.inner.Goals as goal

pub returns-then-m-lt64 : goal.returns-then-m-lt64
returns-then-m-lt64 c = search (short)

pub returns-else-m-lt64 : goal.returns-else-m-lt64
returns-else-m-lt64 c = search (long)
