use Rattle.crc_folds.proofs.Waits.{alone_is}
use Rattle.crc_folds.proofs.alone.Goals as goal

pub returns : goal.returns
returns c = search (alone_is)
