use Rattle.std.proofs.Common.{arith}
use Rattle.read_first.specs.SaidLaws.{first_one}
use Rattle.c_value.proofs.Sayings.{room, realm, no_realm}
use Rattle.c_value.proofs.cratehoist_realm.Goals as goal

pub returns-in-Some : goal.returns-in-Some
returns-in-Some c = search (realm, first_one)

pub returns-in-None : goal.returns-in-None
returns-in-None c = search (no_realm, first_one)

pub overflow_add-result : goal.overflow_add-result
overflow_add-result c = omega (arith, room _ _ (first_one c.find.ensures) c.in-Some.is)
