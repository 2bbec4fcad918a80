use Rattle.std.proofs.Common.{◌∙◌, sym}
use Rattle.wire.specs.Refusal.{refused_by}
use Rattle.registry.proofs.text_fault.Goals as goal

pub returns-then-not-is_utf8 : goal.returns-then-not-is_utf8
unfolding refused_by
returns-then-not-is_utf8 c = simp (sym c.is_utf8.ensures ∙ c.if-not-is_utf8.true)

pub returns : goal.returns
unfolding refused_by
returns c = simp (sym c.is_utf8.ensures ∙ c.if-not-is_utf8.false)
