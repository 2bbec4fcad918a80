-- What waits, with the next word folded into it.
use Rattle.std.proofs.Common.{rules}
use Rattle.crc_folds.specs.Waits.{register}
use Rattle.crc_folds.proofs.Waits.{near_is}
use Rattle.crc_folds.proofs.fold_near.Goals as goal

pub returns : goal.returns
unfolding register
returns c = near_is _ _ _ _ _ _ (search rules) (search rules)
