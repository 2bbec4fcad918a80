use Rattle.hex_text.proofs.Laying.{spell_turn, spell_done, first_good, second_good}
use Rattle.hex_text.proofs.spell.Goals as goal

pub nibble-requires : goal.nibble-requires
nibble-requires c = search (first_good)

pub nibble-requires-in-loop-i : goal.nibble-requires-in-loop-i
nibble-requires-in-loop-i c = search (second_good)

pub loop-i-preserved : goal.loop-i-preserved
loop-i-preserved c = search (spell_turn)

pub returns : goal.returns
returns c = search (spell_done)
