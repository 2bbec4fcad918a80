use Rattle.c_read.proofs.Sayings.{attribute, end, cut}
use Rattle.c_read.proofs.step_said.Goals as goal

pub returns-in-Attribute : goal.returns-in-Attribute
returns-in-Attribute c = search (attribute)

pub returns-in-End : goal.returns-in-End
returns-in-End c = search (end)

pub returns-in-Cut : goal.returns-in-Cut
returns-in-Cut c = search (cut)
