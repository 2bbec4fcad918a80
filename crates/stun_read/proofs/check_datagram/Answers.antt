use Rattle.std.proofs.Common.{ap, ◌∙◌, min}
use Rattle.wire.specs.Refusal.{number_of}
use Rattle.wire.proofs.RefusalLaws.{number_back}
use Rattle.stun_read.proofs.check_datagram.Goals as goal

pub returns : goal.returns
returns c = c.status_of.ensures ∙ ap (min 1) (c.number_of-n.ensures ∙ ap number_of c.check_integrity.ensures ∙ number_back _)
