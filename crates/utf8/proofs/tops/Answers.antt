use Rattle.std.proofs.Common.{rules}
use Rattle.utf8.proofs.Marks.{eight}
use Rattle.utf8.proofs.tops.Goals as goal

pub returns : goal.returns
returns c = eight c.args.s.now c.args.i c.requires (λ k. search (rules, c.type_inv.s k)) c.from_le_bytes-word.ensures
