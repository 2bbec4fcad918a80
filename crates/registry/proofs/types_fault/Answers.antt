use Rattle.std.proofs.Common.{ne_eqb}
use Rattle.wire.specs.Refusal.{refused_by}
use Rattle.registry.proofs.types_fault.Goals as goal

pub returns-then-types-ne0 : goal.returns-then-types-ne0
unfolding refused_by
returns-then-types-ne0 c = simp (ne_eqb _ _ c.if-types-ne0.true)

pub returns : goal.returns
unfolding refused_by
returns c = simp (c.if-types-ne0.false)
