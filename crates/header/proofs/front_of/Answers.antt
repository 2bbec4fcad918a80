use Rattle.std.proofs.Common.{ap}
use Rattle.std.proofs.lemmas.Result.{err_from_is_err_and}
use Rattle.wire.specs.SaidLaws.{from_number_one}
use Rattle.header.specs.Header.{header_said}
use Rattle.header.proofs.Fronts.{front_0, front_1, front_2, front_3}
use Rattle.header.proofs.front_of.Goals as goal

pub returns-then-d-lt20 : goal.returns-then-d-lt20
returns-then-d-lt20 c = ap header_said (search (front_1))

pub returns-in_err-t : goal.returns-in_err-t
returns-in_err-t c =
    let p = err_from_is_err_and c.from_residual.result c.from_residual.ensures.1 in
    rw (p.1, p.2) (ap header_said (search (front_2, from_number_one, c.in_err-t.was)))

pub returns-then-not-cookie_at : goal.returns-then-not-cookie_at
returns-then-not-cookie_at c = ap header_said (search (front_3, from_number_one, c.in_ok-t.was))

pub returns : goal.returns
returns c = ap header_said (search (front_0, from_number_one, c.in_ok-t.was))
