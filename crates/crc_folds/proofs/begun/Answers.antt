use Rattle.crc_folds.proofs.Front.{begun_none, begun_four, begun_half}
use Rattle.crc_folds.proofs.begun.Goals as goal

pub returns-then-i-lt4 : goal.returns-then-i-lt4
returns-then-i-lt4 c = search (begun_none)

pub returns-then-s-lt44 : goal.returns-then-s-lt44
returns-then-s-lt44 c = search (begun_four)

pub returns : goal.returns
returns c = search (begun_half)
