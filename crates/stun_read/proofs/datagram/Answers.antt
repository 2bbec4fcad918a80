use Rattle.stun_read.proofs.Ending.{whole, broken, refused}
use Rattle.stun_read.proofs.datagram.Goals as goal

pub returns-in-Ok-attributes : goal.returns-in-Ok-attributes
returns-in-Ok-attributes c = search (whole)

pub returns-in-Err-attributes : goal.returns-in-Err-attributes
returns-in-Err-attributes c = search (broken)

pub returns-in-Err : goal.returns-in-Err
returns-in-Err c = search (refused)
