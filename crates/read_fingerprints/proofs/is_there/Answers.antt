use Rattle.std.proofs.Common.{rules}
use Rattle.read_fingerprints.proofs.Faults.{is_there_lem}
use Rattle.read_fingerprints.proofs.is_there.Goals as goal

pub returns : goal.returns
returns c = is_there_lem c.args.d.now (λ k. search (rules, c.type_inv.d k)) c.args.at c.args.x c.requires c.u32_at.ensures
