use Rattle.std.proofs.Common.{◌-◌}
use Rattle.crc.proofs.Multiplied.{Left}
use Rattle.crc.proofs.digits.Given as goal

abbrev pub invariant-loop : goal.invariant-loop
invariant-loop l = Left l.k l.fn.s l.s (l.k - l.counter)
