use Rattle.crc32.proofs.Sums.{whole}
use Rattle.crc32.proofs.crc32.Goals as goal

pub returns : goal.returns
returns c = search (whole)
