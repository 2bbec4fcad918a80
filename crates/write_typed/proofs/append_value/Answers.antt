use Rattle.std.proofs.Common.{ap}
use Rattle.write_begin.specs.Begin.{written_said}
use Rattle.write_begin.specs.SaidLaws.{written_one}
use Rattle.write_typed.proofs.Values.{value_answer, value_buffer}
use Rattle.write_typed.proofs.append_value.Goals as goal

pub returns : goal.returns
returns c = (ap written_said (search (value_answer, written_one)), search (value_buffer))
