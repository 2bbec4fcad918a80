use Rattle.std.proofs.Common.{ap, sym, ◌∙◌}
use Rattle.header.specs.SaidLaws.{header_one}
use Rattle.write_address.specs.Address.{id_in, id_given}
use Rattle.write_address.proofs.id_at.Goals as goal

pub returns-in-Ok : goal.returns-in-Ok
unfolding id_given
returns-in-Ok c = ap id_in (sym c.in-Ok.is ∙ header_one c.front_of.ensures)

pub returns-in-Err : goal.returns-in-Err
unfolding id_given
returns-in-Err c = ap id_in (sym c.in-Err.is ∙ header_one c.front_of.ensures)
