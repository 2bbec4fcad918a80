use Rattle.read_message.specs.SaidLaws.{reading_one}
use Rattle.c_read.proofs.Sayings.{whole, broken, refused}
use Rattle.c_read.proofs.cratehoist_read.Goals as goal

pub returns-in-Ok-attributes : goal.returns-in-Ok-attributes
returns-in-Ok-attributes c = search (whole, reading_one)

pub returns-in-Err-attributes : goal.returns-in-Err-attributes
returns-in-Err-attributes c = search (broken, reading_one)

pub returns-in-Err : goal.returns-in-Err
returns-in-Err c = search (refused, reading_one)
