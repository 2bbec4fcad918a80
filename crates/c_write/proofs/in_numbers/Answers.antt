use Rattle.c_write.proofs.Sayings.{total, refused}
use Rattle.c_write.proofs.in_numbers.Goals as goal

pub returns-in-Ok : goal.returns-in-Ok
returns-in-Ok c = search (total)

pub returns-in-Err : goal.returns-in-Err
returns-in-Err c = search (refused)
