use Rattle.write_address.proofs.Values.{form_bytes}
use Rattle.write_address.proofs.form_bytes.Goals as goal

pub returns : goal.returns
returns c = search (form_bytes)
