use Rattle.std.proofs.Common.{◌≡◌, drop}
use Rattle.digits.specs.Number.{value_from}
use Rattle.digits.proofs.value_in.Given as goal

abbrev pub invariant-loop-b : goal.invariant-loop-b
invariant-loop-b l = value_from l.base l.n (drop l.b-index l.s) ≡ value_from l.base 0 l.s
