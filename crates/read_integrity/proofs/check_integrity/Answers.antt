use Rattle.std.proofs.Common.{arith}
use Rattle.std.proofs.lemmas.Result.{err_from_is_err_and}
use Rattle.read_message.specs.SaidLaws.{reading_one}
use Rattle.read_first.specs.SaidLaws.{first_one}
use Rattle.read_integrity.proofs.Checking.{refused, broken, missing, compares, low, room, fits}
use Rattle.read_integrity.proofs.check_integrity.Goals as goal

pub returns-in_err-reading : goal.returns-in_err-reading
returns-in_err-reading c =
    let p = err_from_is_err_and c.from_residual.result c.from_residual.ensures.1 in
    rw (p.1, p.2) (search (refused, reading_one, c.in_err-reading.was))

pub returns-in-Err : goal.returns-in-Err
returns-in-Err c = search (broken, reading_one, c.in_ok-reading.was)

pub compare-requires : goal.compare-requires
compare-requires c =
    let r = reading_one c.read.ensures in
    let w = c.in_ok-reading.was in
    let o = first_one c.search.ensures in (
      low c.args.d.now c.args.key.now r w c.in_default.is o c.in-Some.is,
      room c.args.d.now c.args.key.now r w c.in_default.is o c.in-Some.is,
      fits c.args.d.now c.args.key.now r w c.in_default.is o c.in-Some.is (λ i. omega (arith, c.type_inv.d i)),
    )

pub returns-in-None : goal.returns-in-None
returns-in-None c = missing _ _ (reading_one c.read.ensures) c.in_ok-reading.was c.in_default.is (first_one c.search.ensures) c.in-None.is

pub returns-in-Some : goal.returns-in-Some
returns-in-Some c =
    compares _ _ (reading_one c.read.ensures) c.in_ok-reading.was c.in_default.is (first_one c.search.ensures) c.in-Some.is c.compare.ensures
