use Rattle.utf8.proofs.Marks.{thirty_two}
use Rattle.utf8.proofs.ascii_32.Goals as goal

pub returns : goal.returns
returns c = search (thirty_two)
