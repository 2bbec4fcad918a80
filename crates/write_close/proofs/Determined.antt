-- The contracts of the public calls determine their answers and the buffer.
use Rattle.std.specs.Prelude.{ℕ, List, Result}
use Rattle.std.proofs.Common.{ap₂}
use Rattle.base.specs.DeterminedLaws.{by}
use Rattle.base.specs.Determined.{Determines}
use Rattle.wire.specs.declared.refusal.Refusal.{Refusal}
use Rattle.write_begin.specs.SaidLaws.{written_one}
use Rattle.write_raw.specs.Append.{answer, appended}
use Rattle.write_close.specs.Seal.{fingerprint, integrity}
use Rattle.write_close.proofs.append_fingerprint.Kinds as append_fingerprint_kinds
use Rattle.write_close.proofs.append_fingerprint.Reads as append_fingerprint_reads
use Rattle.write_close.proofs.append_message_integrity.Kinds as append_integrity_kinds
use Rattle.write_close.proofs.append_message_integrity.Reads as append_integrity_reads

pub determined-append_fingerprint : Determines append_fingerprint_kinds.ps append_fingerprint_kinds.r {I = List ℕ} {A = Result ℕ Refusal × List ℕ} append_fingerprint_reads.Asked append_fingerprint_reads.Learnt
    (λ κs a. a.0.now) (λ κs z e. (z, e.0.now))
determined-append_fingerprint =
    by append_fingerprint_kinds.ps append_fingerprint_kinds.r append_fingerprint_reads.Asked append_fingerprint_reads.Learnt _ _
    (λ x. (answer x 0 (fingerprint x), appended x 0 (fingerprint x)))
    (λ κs a y d i q. ap₂ (λ (u : Result ℕ Refusal) (v : List ℕ). (u, v)) (written_one q.0) q.1)

pub determined-append_message_integrity : Determines append_integrity_kinds.ps append_integrity_kinds.r {I = List ℕ × List ℕ} {A = Result ℕ Refusal × List ℕ} append_integrity_reads.Asked append_integrity_reads.Learnt
    (λ κs a. (a.0.now, a.1.0.now)) (λ κs z e. (z, e.0.now))
determined-append_message_integrity =
    by append_integrity_kinds.ps append_integrity_kinds.r append_integrity_reads.Asked append_integrity_reads.Learnt _ _
    (λ x. (answer x.0 0 (integrity x.1 x.0), appended x.0 0 (integrity x.1 x.0)))
    (λ κs a y d i q. ap₂ (λ (u : Result ℕ Refusal) (v : List ℕ). (u, v)) (written_one q.0) q.1)
