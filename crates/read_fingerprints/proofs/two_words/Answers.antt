use Rattle.read_fingerprints.proofs.Runs.{two_words_are}
use Rattle.std.proofs.Common.{rules}
use Rattle.read_fingerprints.proofs.two_words.Goals as goal

pub returns : goal.returns
returns c = (search (two_words_are), search rules)
