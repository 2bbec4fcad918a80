use Rattle.read_typed.proofs.Fields.{fields}
use Rattle.read_typed.proofs.address.Goals as goal

pub returns : goal.returns
returns c = search (fields)
