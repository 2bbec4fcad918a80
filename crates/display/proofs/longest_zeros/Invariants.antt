use Rattle.std.specs.Prelude.{◌≡◌, drop}
use Rattle.display.specs.Span.{span}
use Rattle.display.specs.Zeros.{longest_from}
use Rattle.display.proofs.longest_zeros.Given as goal

abbrev pub invariant-loop-i : goal.invariant-loop-i
invariant-loop-i l = longest_from l.i l.best (drop l.i l.groups) ≡ longest_from 0 (span 0 0) l.groups
