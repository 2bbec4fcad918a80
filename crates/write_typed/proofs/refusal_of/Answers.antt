use Rattle.write_typed.proofs.Values.{taken, refused}
use Rattle.write_typed.proofs.refusal_of.Goals as goal

pub returns-in-Ok : goal.returns-in-Ok
returns-in-Ok c = search (taken)

pub returns-in-Err : goal.returns-in-Err
returns-in-Err c = search (refused)
