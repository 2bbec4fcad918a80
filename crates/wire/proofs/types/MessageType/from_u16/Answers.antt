use Rattle.wire.proofs.Classes.{known}
use borrow.Author.Tests.{le-ltb}
use Rattle.wire.specs.TypeNumber.{type_from}
use Rattle.wire.proofs.types.MessageType.from_u16.Goals as goal

pub returns-then-value-lt16384 : goal.returns-then-value-lt16384
returns-then-value-lt16384 c = search (known)

pub returns : goal.returns
unfolding type_from
returns c = simp (le-ltb _ _ c.if-value-lt16384.false)
