use Rattle.c_names.proofs.Sayings.{no_class, class}
use Rattle.c_names.proofs.cratehoist_class_name.Goals as goal

pub returns-then-message_class-gt3 : goal.returns-then-message_class-gt3
returns-then-message_class-gt3 c = search (no_class)

pub returns : goal.returns
returns c = search (class)
