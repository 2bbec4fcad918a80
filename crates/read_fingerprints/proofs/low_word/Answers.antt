use Rattle.std.proofs.Common.{rules}
use Rattle.read_fingerprints.proofs.Runs.{word_is}
use Rattle.read_fingerprints.proofs.low_word.Goals as goal

pub returns : goal.returns
returns c = word_is c.args.d.now c.args.at c.requires (λ k. search (rules, c.type_inv.d k)) c.from_le_bytes.ensures
