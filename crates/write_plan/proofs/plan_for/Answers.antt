use Rattle.std.proofs.Common.{ap}
use Rattle.std.proofs.lemmas.Result.{err_from_is_err_and}
use Rattle.write_plan.specs.Plan.{plan_said}
use Rattle.write_plan.proofs.Plans.{at_21, at_23, at_24, at_25_alone, at_25, at_26, plan_goes}
use Rattle.write_plan.proofs.plan_for.Goals as goal

pub returns-in_err-old : goal.returns-in_err-old
returns-in_err-old c =
    let p = err_from_is_err_and c.from_residual.result c.from_residual.ensures.1 in
    rw (p.1, p.2) (ap plan_said (search (at_21, c.in_err-old.was)))

pub returns-in_err-refused_by : goal.returns-in_err-refused_by
returns-in_err-refused_by c =
    let p = err_from_is_err_and c.from_residual-in_err-refused_by.result c.from_residual-in_err-refused_by.ensures.1 in
    rw (p.1, p.2) (ap plan_said (search (at_23, c.in_ok-old.was, c.in_err-refused_by.was)))

pub returns-then-m-n : goal.returns-then-m-n
returns-then-m-n c = ap plan_said (search (at_24, c.in_ok-old.was, c.in_ok-refused_by.was))

pub returns-then-n-gt65532 : goal.returns-then-n-gt65532
returns-then-n-gt65532 c = ap plan_said (search (at_25_alone, c.in_ok-old.was, c.in_ok-refused_by.was))

pub returns-then-body-gt65532 : goal.returns-then-body-gt65532
returns-then-body-gt65532 c = ap plan_said (search (at_25, c.in_ok-old.was, c.in_ok-refused_by.was))

pub returns-then-d-body : goal.returns-then-d-body
returns-then-d-body c = ap plan_said (search (at_26, c.in_ok-old.was, c.in_ok-refused_by.was))

pub returns : goal.returns
returns c = ap plan_said (search (plan_goes, c.in_ok-old.was, c.in_ok-refused_by.was))
