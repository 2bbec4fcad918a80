use Rattle.std.proofs.Common.{ap, ◌∙◌}
use Rattle.wire.specs.Refusal.{number_of}
use Rattle.wire.proofs.RefusalLaws.{number_back}
use Rattle.c_value.proofs.cratehoist_check_integrity.Goals as goal

pub returns : goal.returns
returns c = c.number_of.ensures ∙ ap number_of c.check_integrity.ensures ∙ number_back _
