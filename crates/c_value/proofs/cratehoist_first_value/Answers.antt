use Rattle.std.proofs.Common.{arith}
use Rattle.read_first.specs.SaidLaws.{first_one}
use Rattle.c_value.proofs.Sayings.{room, part, no_part}
use Rattle.c_value.proofs.cratehoist_first_value.Goals as goal

pub returns-in-Some : goal.returns-in-Some
returns-in-Some c = search (part, first_one)

pub returns-in-None : goal.returns-in-None
returns-in-None c = search (no_part, first_one)

pub overflow_add-start : goal.overflow_add-start
overflow_add-start c = omega (arith, room _ _ (first_one c.find.ensures) c.in-Some.is)
