use Rattle.std.proofs.Common.{ap, ◌∙◌, sym}
use Rattle.read_message.specs.SaidLaws.{reading_one}
use Rattle.read_first.specs.First.{first_said}
use Rattle.read_first.specs.SaidLaws.{first_one}
use Rattle.read_first.proofs.Finding.{whole, broken, refused}
use Rattle.read_first.proofs.find.Goals as goal

pub returns-in-Ok : goal.returns-in-Ok
returns-in-Ok c =
    ap first_said (whole _ _ (reading_one c.read.ensures) c.in-Ok.is (sym c.is_ok.ensures.value ∙ c.if-is_ok.true) (first_one c.search.ensures))

pub returns-in_default : goal.returns-in_default
returns-in_default c = ap first_said (broken _ _ (reading_one c.read.ensures) c.in-Ok.is (sym c.is_ok.ensures.value ∙ c.if-is_ok.false))

pub returns-in_default-2 : goal.returns-in_default-2
returns-in_default-2 c = ap first_said (refused _ _ (reading_one c.read.ensures) c.in_default.is)
