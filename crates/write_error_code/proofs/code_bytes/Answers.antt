use Rattle.write_error_code.proofs.Values.{code_bytes}
use Rattle.write_error_code.proofs.code_bytes.Goals as goal

pub returns : goal.returns
returns c = code_bytes c.args.error c.args.phrase.now _ c.copy_from_slice.ensures.after
