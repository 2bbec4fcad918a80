use Rattle.std.proofs.Common.{arith}
use Rattle.utf8.proofs.Walk.{fits, past_char, none_here}
use Rattle.utf8.proofs.onward.Goals as goal

pub overflow_add-result : goal.overflow_add-result
overflow_add-result c = omega (arith, fits _ _ _ c.requires c.width_at.ensures)

pub returns-in-0 : goal.returns-in-0
returns-in-0 c = none_here _ _ _ c.requires c.width_at.ensures c.in-0.is

pub returns-in_default : goal.returns-in_default
returns-in_default c = past_char _ _ _ c.requires c.width_at.ensures (λ e. omega arith)
