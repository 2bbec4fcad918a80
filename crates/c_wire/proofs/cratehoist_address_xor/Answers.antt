use Rattle.c_wire.proofs.Sayings.{form_4, form_6, form_none}
use Rattle.c_wire.proofs.cratehoist_address_xor.Goals as goal

pub returns-then-address-eq1 : goal.returns-then-address-eq1
returns-then-address-eq1 c = search (form_4)

pub returns-then-address-eq2 : goal.returns-then-address-eq2
returns-then-address-eq2 c = search (form_6)

pub returns : goal.returns
returns c = search (form_none)
