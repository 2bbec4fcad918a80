-- The contract of the public call determines its answer.
use Rattle.std.proofs.Common.{ℕ, List}
use Rattle.base.specs.DeterminedLaws.{by}
use Rattle.base.specs.Determined.{Determines}
use Rattle.crc.specs.Crc.{bytes_from}
use Rattle.crc_folds.proofs.by_words.Kinds as by_words_kinds
use Rattle.crc_folds.proofs.by_words.Reads as by_words_reads

pub determined-by_words : Determines by_words_kinds.ps by_words_kinds.r {I = ℕ × List ℕ} {A = ℕ} by_words_reads.Asked by_words_reads.Learnt
    (λ κs a. (a.0, a.1.0.now)) (λ κs z e. z)
determined-by_words = by by_words_kinds.ps by_words_kinds.r by_words_reads.Asked by_words_reads.Learnt _ _ (λ x. bytes_from x.0 x.1) (λ κs a y d i q. q)
