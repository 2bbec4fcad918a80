use Rattle.std.proofs.Common.{arith, sym, ◌∙◌, le-leb}
use Rattle.base.specs.LaidLaws.{laying_turn, laying_done}
use Rattle.buffers.specs.Put.{fits_at}
use Rattle.buffers.specs.PutLaws.{put_laid}
use Rattle.buffers.proofs.put_bytes.Goals as goal

pub loop-j-preserved : goal.loop-j-preserved
loop-j-preserved c = search (laying_turn)

pub returns-after-loop-j : goal.returns-after-loop-j
unfolding fits_at
returns-after-loop-j c = (sym (le-leb _ _ (omega arith)), laying_done c.loop-j.invariant (omega arith) ∙ sym (put_laid _ _ _ (omega arith)))
