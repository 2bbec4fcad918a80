use Rattle.read_typed.proofs.Fields.{code_fields}
use Rattle.read_typed.proofs.error_code.Goals as goal

pub returns : goal.returns
returns c = search (code_fields)
