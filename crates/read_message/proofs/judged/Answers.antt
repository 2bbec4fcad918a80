use Rattle.std.proofs.lemmas.Result.{err_from_is_err_and}
use Rattle.attribute.specs.SaidLaws.{scan_one}
use Rattle.read_message.proofs.Answers.{first, second}
use Rattle.read_message.proofs.judged.Goals as goal

pub returns-in_err-front : goal.returns-in_err-front
returns-in_err-front c =
    let p = err_from_is_err_and c.from_residual.result c.from_residual.ensures.1 in
    rw (p.1, p.2) (search (first, c.in_err-front.was))

pub returns : goal.returns
returns c = search (second, scan_one, c.in_ok-front.was)
