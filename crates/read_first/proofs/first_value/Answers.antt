use Rattle.std.proofs.Common.{arith}
use Rattle.registry.specs.Rows.{rfc5389}
use Rattle.read_first.specs.SaidLaws.{first_one}
use Rattle.read_first.proofs.FirstLaws.{room, nothing, nothing_at, value, value_at_lem}
use Rattle.read_first.proofs.first_value.Goals as goal

pub returns-in_default : goal.returns-in_default
returns-in_default c = (search (nothing, first_one), search (nothing_at, first_one))

pub returns : goal.returns
returns c = (search (value, first_one), search (value_at_lem, first_one))

pub overflow_add-value : goal.overflow_add-value
overflow_add-value c = omega (arith, room rfc5389 _ _ (first_one c.find.ensures) c.in-Some.is)

pub overflow_add-result : goal.overflow_add-result
overflow_add-result c = omega (arith, room rfc5389 _ _ (first_one c.find.ensures) c.in-Some.is)

pub slice_bounds-result-end-2 : goal.slice_bounds-result-end-2
slice_bounds-result-end-2 c = omega (arith, room rfc5389 _ _ (first_one c.find.ensures) c.in-Some.is)
