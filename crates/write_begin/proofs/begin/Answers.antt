use Rattle.std.proofs.Common.{ap}
use Rattle.std.proofs.lemmas.Result.{err_from_is_err_and}
use Rattle.wire.specs.SaidLaws.{type_number_one}
use Rattle.write_begin.specs.Begin.{written_said}
use Rattle.write_begin.proofs.Begins.{refused_22, kept_22, refused_26, kept_26, total, laid_head}
use Rattle.write_begin.proofs.begin.Goals as goal

pub returns-in_err-number : goal.returns-in_err-number
returns-in_err-number c =
    let p = err_from_is_err_and c.from_residual.result c.from_residual.ensures.1 in
    (rw (p.1, p.2) (ap written_said (search (refused_22, type_number_one, c.in_err-number.was))), search (kept_22, type_number_one, c.in_err-number.was))

pub returns-then-buf-lt20 : goal.returns-then-buf-lt20
returns-then-buf-lt20 c = (ap written_said (search (refused_26, type_number_one, c.in_ok-number.was)), search (kept_26, type_number_one, c.in_ok-number.was))

pub returns : goal.returns
returns c = (ap written_said (search (total, type_number_one, c.in_ok-number.was)), search (laid_head, type_number_one, c.in_ok-number.was))
