use Rattle.write_begin.specs.SaidLaws.{written_one}
use Rattle.c_write.proofs.Sayings.{no_class, kept, begins, leaves}
use Rattle.c_write.proofs.cratehoist_begin.Goals as goal

pub returns-then-message_class-gt3 : goal.returns-then-message_class-gt3
returns-then-message_class-gt3 c = (search no_class, search kept)

pub returns : goal.returns
returns c = (search (begins, written_one), search leaves)
