use Rattle.std.proofs.Common.{arith}
use Rattle.utf8_spec.specs.Utf8Laws.{row}
use Rattle.utf8.proofs.Walk.{done}
use Rattle.utf8.proofs.is_utf8.Goals as goal

pub past-pairs-requires : goal.past-pairs-requires
past-pairs-requires c = (omega arith, (c.in-Some.ensures.on.within, (omega arith, row 1 (omega arith))))

pub past-triples-requires : goal.past-triples-requires
past-triples-requires c = (omega arith, (c.past-pairs.ensures.within, (omega arith, row 3 (omega arith))))

pub past-i-requires : goal.past-i-requires
past-i-requires c = (omega arith, (c.past-triples.ensures.within, (omega arith, row 6 (omega arith))))

pub returns : goal.returns
returns c = search (done)
