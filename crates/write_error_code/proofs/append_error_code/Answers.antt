use mathlib.Core.Logic.{⊎_elim}
use mathlib.Core.Path.{◌≡◌, ap}
use Rattle.write_begin.specs.Begin.{written_said}
use Rattle.write_begin.specs.SaidLaws.{written_one}
use Rattle.registry.specs.Rows.{rfc5389}
use Rattle.write_error_code.specs.ErrorCode.{code_refusal}
use Rattle.write_error_code.proofs.Values.{too_low, too_high, too_large, too_long, stops, keeps, code_answer, code_buffer}
use Rattle.write_error_code.proofs.append_error_code.Goals as goal

pub returns-then-code-lt300 : goal.returns-then-code-lt300
returns-then-code-lt300 c =
    let e : code_refusal rfc5389 c.args.error c.args.phrase.now ≡ 23 =
    ⊎_elim (λ t. too_low _ _ t)
    (⊎_elim (λ t. too_high _ _ t.0 t.1) (⊎_elim (λ t. too_large _ _ t.0 t.1 t.2) (λ t. too_long _ _ t.0 t.1 t.2 t.3)))
    c.then-code-lt300.either
    in
    (ap written_said (search (stops, written_one)), search (keeps))

pub returns : goal.returns
returns c = (ap written_said (search (code_answer, written_one)), search (code_buffer))
