use Rattle.hex_text.proofs.Places.{all}
use Rattle.hex_text.proofs.unhex.Goals as goal

pub spell-requires : goal.spell-requires
spell-requires c = search (all)
