use Rattle.std.proofs.Common.{arith}
use Rattle.utf8.proofs.Tails.{length-ranges}
use Rattle.utf8.proofs.Walk.{on_row}
use Rattle.utf8.proofs.past.Goals as goal

pub loop-j-smaller : goal.loop-j-smaller
loop-j-smaller g c =
    let on = on_row c.requires.row_of c.loop-j.invariant c.stands.ensures c.loop-j-test.true in
    omega (arith, c.requires.some, on.within, length-ranges c.args.row.now, c.told-row)

pub loop-j-preserved : goal.loop-j-preserved
loop-j-preserved g c =
    let on = on_row c.requires.row_of c.loop-j.invariant c.stands.ensures c.loop-j-test.true in
    rw (length-ranges c.args.row.now, c.told-row) at on
