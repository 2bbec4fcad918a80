use Rattle.std.proofs.Common.{ap, ◌∙◌, is_some}
use Rattle.read_first.specs.SaidLaws.{first_one}
use Rattle.read_first.proofs.Finding.{has_one}
use Rattle.read_first.proofs.has.Goals as goal

pub returns : goal.returns
returns c = c.is_some.ensures ∙ ap is_some (first_one c.find.ensures) ∙ has_one _
