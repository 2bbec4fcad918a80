use Rattle.std.proofs.Common.{arith}
use Rattle.crc_folds.proofs.take_words.Goals as goal

pub loop-i-preserved : goal.loop-i-preserved
loop-i-preserved g c = (
  omega (arith, c.requires.a_word, c.loop-i-test.true, c.loop-i.invariant.0),
  λ v w. c.requires.keeps _ _ _ _ _ c.loop-i-test.true (c.loop-i.invariant.1 v w) c.word_at.type_inv c.word_at.ensures c.step-g.ensures,
)
