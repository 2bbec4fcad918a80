use Rattle.crc.proofs.Multiplied.{one_taken}
use Rattle.crc.proofs.digit.Goals as goal

pub returns : goal.returns
returns c = search (one_taken)
