use Rattle.c_wire.proofs.Sayings.{other}
use Rattle.c_wire.proofs.form_of.Goals as goal

pub returns : goal.returns
returns c = search (other)
