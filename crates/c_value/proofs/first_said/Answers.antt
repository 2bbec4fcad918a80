use Rattle.c_value.proofs.Sayings.{one, no_one}
use Rattle.c_value.proofs.first_said.Goals as goal

pub returns-in-Some : goal.returns-in-Some
returns-in-Some c = search (one)

pub returns-in-None : goal.returns-in-None
returns-in-None c = search (no_one)
