use Rattle.base.specs.ThroughLaws.{through}
use Rattle.write_begin.specs.SaidLaws.{written_one}
use Rattle.c_write.specs.Written.{told}
use borrow.Author.Rules.{rules}
use Rattle.c_typed.proofs.cratehoist_append_error_code.Goals as goal

pub returns : goal.returns
returns c = (search (through told, written_one), search rules)
