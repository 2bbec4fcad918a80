use Rattle.std.proofs.Common.{ap}
use Rattle.std.proofs.lemmas.Result.{err_from_is_err_and}
use Rattle.write_begin.specs.Begin.{written_said}
use Rattle.write_plan.specs.SaidLaws.{plan_one}
use Rattle.write_raw.proofs.Writes.{value_short, attr_room, refused, total_is, kept, both}
use Rattle.write_raw.proofs.append_unless.Goals as goal

pub returns-in_err-at : goal.returns-in_err-at
returns-in_err-at c =
    let p = err_from_is_err_and c.from_residual.result c.from_residual.ensures.1 in
    (rw (p.1, p.2) (ap written_said (search (refused, plan_one, c.in_err-at.was))), search (kept, plan_one, c.in_err-at.was))

pub put_attr-requires : goal.put_attr-requires
put_attr-requires c = (search (value_short, plan_one, c.in_ok-at.was), search (attr_room, plan_one, c.in_ok-at.was))

pub returns : goal.returns
returns c = (ap written_said (search (total_is, plan_one, c.in_ok-at.was)), search (both, plan_one, c.in_ok-at.was))
