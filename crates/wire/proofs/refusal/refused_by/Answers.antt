use Rattle.std.proofs.Common.{eq-eqb, ne_eqb}
use Rattle.wire.specs.Refusal.{refused_by}
use Rattle.wire.proofs.refusal.refused_by.Goals as goal

pub returns-then-number-eq0 : goal.returns-then-number-eq0
unfolding refused_by
returns-then-number-eq0 c = simp (eq-eqb _ _ c.if-number-eq0.true)

pub returns : goal.returns
unfolding refused_by
returns c = simp (ne_eqb _ _ c.if-number-eq0.false)
