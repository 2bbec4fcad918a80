use Rattle.std.proofs.Common.{arith}
use Rattle.registry.specs.Rows.{rfc5389}
use Rattle.read_first.specs.SaidLaws.{first_one}
use Rattle.read_first.proofs.FirstLaws.{room}
use Rattle.read_realm.proofs.Choosing.{configured, configured_at, own, own_at}
use Rattle.read_realm.proofs.chosen.Goals as goal

pub returns-in_default : goal.returns-in_default
returns-in_default c = (search (configured, first_one), search (configured_at, first_one))

pub returns : goal.returns
returns c = (search (own, first_one), search (own_at, first_one))

pub overflow_add-value : goal.overflow_add-value
overflow_add-value c = omega (arith, room rfc5389 _ _ (first_one c.find.ensures) c.in-Some.is)

pub overflow_add-result : goal.overflow_add-result
overflow_add-result c = omega (arith, room rfc5389 _ _ (first_one c.find.ensures) c.in-Some.is)

pub slice_bounds-result-end : goal.slice_bounds-result-end
slice_bounds-result-end c = omega (arith, room rfc5389 _ _ (first_one c.find.ensures) c.in-Some.is)
