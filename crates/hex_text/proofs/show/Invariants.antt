use Rattle.std.specs.Prelude.{◌*◌}
use Rattle.base.specs.LaidLaws.{Laying}
use Rattle.hex_text.specs.Hex.{digits}
use Rattle.hex_text.proofs.show.Given as goal

abbrev pub invariant-loop-i : goal.invariant-loop-i
invariant-loop-i l = Laying l.fn.out (digits l.b-items) 0 l.out (l.i * 2)
