use Rattle.std.proofs.Common.{ap}
use Rattle.std.proofs.lemmas.Result.{err_from_is_err_and}
use Rattle.header.specs.Header.{header_said}
use Rattle.header.specs.SaidLaws.{header_one}
use Rattle.header.proofs.Fronts.{header_0, header_front, header_4}
use Rattle.header.proofs.header_of.Goals as goal

pub returns-in_err-header : goal.returns-in_err-header
returns-in_err-header c =
    let p = err_from_is_err_and c.from_residual.result c.from_residual.ensures.1 in
    rw (p.1, p.2) (ap header_said (search (header_front, header_one, c.in_err-header.was)))

pub returns-then-d-header : goal.returns-then-d-header
returns-then-d-header c = ap header_said (search (header_4, header_one, c.in_ok-header.was))

pub returns : goal.returns
returns c = ap header_said (search (header_0, header_one, c.in_ok-header.was))
