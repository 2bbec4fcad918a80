use Rattle.std.proofs.Common.{rules}
use Rattle.std.proofs.lemmas.List.{drop-take}
use Rattle.header.specs.Header.{id_of}
use Rattle.header.proofs.id_of.Goals as goal

pub returns : goal.returns
unfolding id_of
returns c = search (rules, drop-take)
