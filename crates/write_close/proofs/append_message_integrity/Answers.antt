use Rattle.std.proofs.Common.{ap}
use Rattle.write_begin.specs.Begin.{written_said}
use Rattle.write_begin.specs.SaidLaws.{written_one}
use Rattle.write_close.proofs.Sums.{mac_answer, mac_buffer}
use Rattle.write_close.proofs.append_message_integrity.Goals as goal

pub returns : goal.returns
returns c = (ap written_said (search (mac_answer, written_one)), search (mac_buffer))
