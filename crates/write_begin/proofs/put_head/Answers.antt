use Rattle.write_begin.proofs.Begins.{parts}
use Rattle.write_begin.proofs.put_head.Goals as goal

pub returns : goal.returns
returns c = search (parts)
