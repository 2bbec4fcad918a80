use Rattle.hmac.proofs.Keys.{short_key, long_key}
use Rattle.hmac.proofs.key_block.Goals as goal

pub returns-then-k-le64 : goal.returns-then-k-le64
returns-then-k-le64 c = search (short_key)

pub returns-else-k-le64 : goal.returns-else-k-le64
returns-else-k-le64 c = search (long_key)
