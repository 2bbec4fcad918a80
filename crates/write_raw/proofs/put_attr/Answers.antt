use Rattle.write_raw.proofs.Writes.{parts}
use Rattle.write_raw.proofs.put_attr.Goals as goal

pub returns : goal.returns
returns c = search (parts)
