-- What waits, with the next word folded into it.
use Rattle.std.proofs.Common.{rules}
use Rattle.crc_folds.specs.Waits.{register}
use Rattle.crc_folds.proofs.Waits.{far_is}
use Rattle.crc_folds.proofs.fold_far.Goals as goal

pub returns : goal.returns
unfolding register
returns c = far_is _ _ _ _ _ _ (search rules) (search rules)
