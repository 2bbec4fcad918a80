use Rattle.std.proofs.Common.{rules}
use Rattle.crc_folds.proofs.Walk.{eight}
use Rattle.crc_folds.proofs.word_at.Goals as goal

pub returns : goal.returns
returns c = eight c.args.s.now c.args.i c.requires (λ k. search (rules, c.type_inv.s k)) c.from_le_bytes.ensures
