use Rattle.write_address.proofs.Values.{plain_form, xor_form}
use Rattle.write_address.proofs.form_of.Goals as goal

pub returns-in-XorAddress : goal.returns-in-XorAddress
returns-in-XorAddress c = search (xor_form)

pub returns-in_default : goal.returns-in_default
returns-in_default c = search (plain_form, c.in_default.not-XorAddress)
