use Rattle.std.proofs.Common.{rules}
use Rattle.sha1_digest.proofs.Mixes.{choice_is}
use Rattle.sha1_digest.proofs.compression.choice.Goals as goal

pub returns : goal.returns
returns c = choice_is c.args.x c.args.y c.args.z (search rules) (search rules) (search rules)
