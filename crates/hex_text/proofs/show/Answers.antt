use Rattle.hex_text.proofs.Laying.{show_turn, show_done, show_shown, show_showing}
use Rattle.hex_text.proofs.show.Goals as goal

pub loop-i-preserved : goal.loop-i-preserved
loop-i-preserved c = search (show_turn)

pub returns : goal.returns
returns c = (show_shown _ _ c.min-n.ensures, show_showing _ _ c.min-n.ensures (search (show_done)))
