use Rattle.read_typed.specs.SaidLaws.{typed_one}
use Rattle.c_typed.proofs.Sayings.{address, code, plain, faulty}
use Rattle.c_typed.proofs.cratehoist_typed_value.Goals as goal

pub returns-in-Ok-Address : goal.returns-in-Ok-Address
returns-in-Ok-Address c = search (address, typed_one)

pub returns-in-Ok-Code : goal.returns-in-Ok-Code
returns-in-Ok-Code c = search (code, typed_one)

pub returns-in-Ok-Plain : goal.returns-in-Ok-Plain
returns-in-Ok-Plain c = search (plain, typed_one)

pub returns-in-Err : goal.returns-in-Err
returns-in-Err c = search (faulty, typed_one)
