use Rattle.std.proofs.Common.{rules, ◌∙◌}
use Rattle.sha1_digest.proofs.Padded.{counted}
use Rattle.sha1_digest.proofs.padding.counted.Goals as goal

pub returns : goal.returns
returns c = counted c.args.b c.args.n (search rules) (c.copy_from_slice.ensures.after ∙ c.to_be_bytes.ensures)
