use Rattle.std.proofs.Common.{ap}
use Rattle.write_begin.specs.Begin.{written_said}
use Rattle.write_begin.specs.SaidLaws.{written_one}
use Rattle.registry.specs.SaidLaws.{entry_one, rule_one}
use Rattle.write_address.proofs.Values.{address_answer, address_buffer}
use Rattle.write_address.proofs.append_address.Goals as goal

pub returns : goal.returns
returns c = (ap written_said (search (address_answer, written_one, entry_one, rule_one)), search (address_buffer, entry_one, rule_one))
