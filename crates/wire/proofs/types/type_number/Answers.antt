use Rattle.wire.specs.TypeNumber.{type_of}
use borrow.Author.Rules.{rules}
use Rattle.wire.proofs.types.type_number.Goals as goal

pub returns : goal.returns
unfolding type_of
returns c = search rules
