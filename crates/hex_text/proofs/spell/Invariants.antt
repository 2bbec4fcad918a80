use Rattle.base.specs.LaidLaws.{Laying}
use Rattle.hex_text.proofs.Laying.{fitting}
use Rattle.hex_text.proofs.spell.Given as goal

abbrev pub invariant-loop-i : goal.invariant-loop-i
invariant-loop-i l = Laying l.fn.out (fitting l.fn.out l.s) 0 l.out l.i
