use Rattle.std.proofs.Common.{◌∙◌, lt-ltb, le-ltb}
use Rattle.wire.specs.Refusal.{refused_by}
use Rattle.registry.specs.Fault.{entry_fault}
use Rattle.registry.proofs.entry_fault.Goals.{then-size-row-via-then-size-row, then-size-row-via-else-size-row+then-row-size}
use Rattle.registry.proofs.entry_fault.Goals as goal

pub returns-in_default : goal.returns-in_default
unfolding refused_by entry_fault
returns-in_default c = rw c.in_default.is

pub returns-then-size-row : goal.returns-then-size-row
unfolding refused_by entry_fault
returns-then-size-row c = rw c.in-Some.is (elim c.then-size-row.branch [
  | then-size-row-via-then-size-row w ↦ simp (lt-ltb _ _ w.if-size-row.true)
  | then-size-row-via-else-size-row+then-row-size w ↦ simp (le-ltb _ _ w.if-size-row.false, lt-ltb _ _ w.if-row-size.true)
])

pub returns : goal.returns
unfolding entry_fault
returns c = c.rule_fault.ensures ∙ rw c.in-Some.is (simp (le-ltb _ _ c.if-size-row.false, le-ltb _ _ c.if-row-size.false))
