use mathlib.Core.Path.{ap}
use native.Mathlib.Omega.{arith}
use Rattle.attribute.specs.Walk.{walk_said}
use Rattle.attribute.specs.WalkLaws.{beyond, ended, short, at_step}
use Rattle.attribute.proofs.Steps.{long_step, attr_step}
use Rattle.attribute.proofs.step.Goals as goal

pub returns-then-d-at : goal.returns-then-d-at
returns-then-d-at c = ap walk_said (at_step (beyond (omega arith)))

pub returns-then-left-eq0 : goal.returns-then-left-eq0
returns-then-left-eq0 c = ap walk_said (at_step (ended (omega arith)))

pub returns-then-left-lt4 : goal.returns-then-left-lt4
returns-then-left-lt4 c = ap walk_said (at_step (short (omega arith) (omega arith)))

pub returns-then-left-wide : goal.returns-then-left-wide
returns-then-left-wide c = ap walk_said (long_step _ _ _ _ c.u16_at-size.ensures c.with_padding-wide.ensures.0 (omega arith) (omega arith))

pub returns : goal.returns
returns c =
    ap walk_said
    (attr_step _ _ _ _ _ c.u16_at.ensures c.u16_at-size.ensures c.with_padding-wide.ensures.0 (omega arith))
