use Rattle.crc.proofs.Multiplied.{step_is}
use Rattle.crc.proofs.bit_step.Goals as goal

pub returns : goal.returns
returns c = search (step_is)
