use Rattle.std.proofs.Common.{ap, ◌∙◌}
use Rattle.wire.specs.Refusal.{refused_by}
use Rattle.registry.specs.Fault.{entry_fault, fault}
use Rattle.registry.specs.SaidLaws.{entry_one}
use Rattle.registry.proofs.fault.Goals as goal

pub returns : goal.returns
unfolding fault
returns c = c.entry_fault.ensures ∙ ap (λ x. refused_by (entry_fault x c.args.value.now)) (entry_one c.entry_of.ensures)
