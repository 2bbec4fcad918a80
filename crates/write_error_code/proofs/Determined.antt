-- The contract of the public call determines its answer and the buffer.
use Rattle.std.specs.Prelude.{ℕ, List, Result}
use Rattle.std.proofs.Common.{ap₂}
use Rattle.base.specs.DeterminedLaws.{by}
use Rattle.base.specs.Determined.{Determines}
use Rattle.wire.specs.declared.refusal.Refusal.{Refusal}
use Rattle.registry.specs.Rows.{rfc5389}
use Rattle.registry.specs.ErrorCode.{code_value}
use Rattle.registry.specs.declared.ErrorCode.{ErrorCode}
use Rattle.write_begin.specs.SaidLaws.{written_one}
use Rattle.write_raw.specs.Append.{answer, appended}
use Rattle.write_typed.specs.Typed.{typed}
use Rattle.write_error_code.specs.ErrorCode.{code_refusal}
use Rattle.write_error_code.proofs.append_error_code.Kinds as append_error_code_kinds
use Rattle.write_error_code.proofs.append_error_code.Reads as append_error_code_reads

pub determined-append_error_code : Determines append_error_code_kinds.ps append_error_code_kinds.r {I = List ℕ × ErrorCode × List ℕ} {A = Result ℕ Refusal × List ℕ} append_error_code_reads.Asked append_error_code_reads.Learnt
    (λ κs a. (a.0.now, a.1.0, a.1.1.0.now)) (λ κs z e. (z, e.0.now))
determined-append_error_code =
    by append_error_code_kinds.ps append_error_code_kinds.r append_error_code_reads.Asked append_error_code_reads.Learnt _ _
    (λ x. (answer x.0 (code_refusal rfc5389 x.1 x.2) (typed 0x0009 (code_value x.1 x.2)), appended x.0 (code_refusal rfc5389 x.1 x.2) (typed 0x0009 (code_value x.1 x.2))))
    (λ κs a y d i q. ap₂ (λ (u : Result ℕ Refusal) (v : List ℕ). (u, v)) (written_one q.0) q.1)
