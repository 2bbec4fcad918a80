-- Both halves of a byte stand in the rows of its place.
use Rattle.crc_nibbles.proofs.Halves.{halves_are}
use Rattle.crc_nibbles.proofs.look.Goals as goal

pub returns : goal.returns
returns c = search (halves_are)
