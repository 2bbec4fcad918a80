use native.Mathlib.Omega.{arith}
use borrow.Author.Tests.{le-ltb}
use Rattle.wire.specs.TypeNumber.{type_number}
use Rattle.wire.proofs.Classes.{class_below, numbered}
use Rattle.wire.proofs.types.MessageType.as_u16.Goals as goal

pub type_number-requires : goal.type_number-requires
type_number-requires c = (class_below c.args.self.class c.as_u16.ensures, omega arith)

pub returns-then-m-lt4096 : goal.returns-then-m-lt4096
returns-then-m-lt4096 c = search (numbered)

pub returns : goal.returns
unfolding type_number
returns c = simp (le-ltb _ _ c.if-m-lt4096.false)
