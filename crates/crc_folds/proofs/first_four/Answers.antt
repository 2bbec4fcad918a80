use Rattle.std.proofs.Common.{rules}
use Rattle.crc_folds.proofs.Walk.{four}
use Rattle.crc_folds.proofs.first_four.Goals as goal

pub returns : goal.returns
returns c = four c.args.s.now c.requires (λ k. search (rules, c.type_inv.s k)) c.from_le_bytes.ensures
