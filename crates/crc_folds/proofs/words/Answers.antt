-- Each run of words keeps what waits; then less than a word is left.
use Rattle.std.proofs.Common.{rules}
use Rattle.crc_folds.proofs.Waits.{far_turn, near_turn, settled_turn, waits_small, waits_done}
use Rattle.crc_folds.proofs.words.Goals as goal

pub take_words-j-requires-clause-keeps : goal.take_words-j-requires-clause-keeps
take_words-j-requires-clause-keeps c = λ v j w g r l h k e m. far_turn h l k e m.1

pub take_words-k-requires-clause-keeps : goal.take_words-k-requires-clause-keeps
take_words-k-requires-clause-keeps c = λ v j w g r l h k e m. near_turn h l k e m.1

pub take_words-n-requires-clause-keeps : goal.take_words-n-requires-clause-keeps
take_words-n-requires-clause-keeps c = λ v j w g r l h k e m. settled_turn h l k e (search rules)

pub overflow_cast-rest : goal.overflow_cast-rest
overflow_cast-rest c =
    let begun = c.begun-begun.ensures in
    let last = c.take_words-n.ensures.waits _ (c.take_words-k.ensures.waits _ (c.take_words-j.ensures.waits _ begun)) in
    record { fits = waits_small c.take_words-n.result.0 last c.take_words-n.ensures.few (search rules) }

pub returns : goal.returns
returns c =
    let last = c.take_words-n.ensures.waits _ (c.take_words-k.ensures.waits _ (c.take_words-j.ensures.waits _ c.begun-begun.ensures)) in
    waits_done c.take_words-n.result.0 last c.take_words-n.ensures.few (search rules) c.args.t.now c.requires.0 c.requires.1 c.bytes.ensures
