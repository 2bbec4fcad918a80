-- The contracts of the calls determine their answers and the buffer.
use Rattle.std.specs.Prelude.{ℕ, List, Result}
use Rattle.std.proofs.Common.{ap₂}
use Rattle.base.specs.DeterminedLaws.{by}
use Rattle.base.specs.Determined.{Determines}
use Rattle.write_raw.specs.Append.{attr, answer, appended}
use Rattle.write_close.specs.Seal.{fingerprint, integrity}
use Rattle.c_write.specs.Written.{told, begun_by, left_by}
use Rattle.wire.specs.declared.refusal.Refusal.{Refusal}
use Rattle.c_wire.specs.declared.Id.{Id}
use Rattle.c_write.specs.declared.Written.{Written}
use Rattle.c_write.proofs.in_numbers.Kinds as in_numbers_kinds_kinds
use Rattle.c_write.proofs.in_numbers.Reads as in_numbers_reads
use Rattle.c_write.proofs.cratehoist_begin.Kinds as begin_kinds_kinds
use Rattle.c_write.proofs.cratehoist_begin.Reads as begin_reads
use Rattle.c_write.proofs.cratehoist_append_raw.Kinds as append_raw_kinds_kinds
use Rattle.c_write.proofs.cratehoist_append_raw.Reads as append_raw_reads
use Rattle.c_write.proofs.cratehoist_append_fingerprint.Kinds as append_fingerprint_kinds_kinds
use Rattle.c_write.proofs.cratehoist_append_fingerprint.Reads as append_fingerprint_reads
use Rattle.c_write.proofs.cratehoist_append_message_integrity.Kinds as append_message_integrity_kinds_kinds
use Rattle.c_write.proofs.cratehoist_append_message_integrity.Reads as append_message_integrity_reads

pub determined-in_numbers : Determines in_numbers_kinds_kinds.ps in_numbers_kinds_kinds.r {I = Result ℕ Refusal} {A = Written} in_numbers_reads.Asked in_numbers_reads.Learnt
    (λ κs a. a.0) (λ κs z e. z)
determined-in_numbers =
    by in_numbers_kinds_kinds.ps in_numbers_kinds_kinds.r in_numbers_reads.Asked in_numbers_reads.Learnt _ _
    (λ x. told x)
    (λ κs a y d i q. q)

pub determined-cratehoist_begin : Determines begin_kinds_kinds.ps begin_kinds_kinds.r {I = List ℕ × ℕ × ℕ × Id} {A = Written × List ℕ} begin_reads.Asked begin_reads.Learnt
    (λ κs a. (a.0.now, a.1.0, a.1.1.0, a.1.1.1.0)) (λ κs z e. (z, e.0.now))
determined-cratehoist_begin =
    by begin_kinds_kinds.ps begin_kinds_kinds.r begin_reads.Asked begin_reads.Learnt _ _
    (λ x. (begun_by x.0 x.1 x.2, left_by x.0 x.1 x.2 x.3))
    (λ κs a y d i q. ap₂ (λ (u : Written) (v : List ℕ). (u, v)) q.0 q.1)

pub determined-cratehoist_append_raw : Determines append_raw_kinds_kinds.ps append_raw_kinds_kinds.r {I = List ℕ × ℕ × List ℕ × List ℕ} {A = Written × List ℕ} append_raw_reads.Asked append_raw_reads.Learnt
    (λ κs a. (a.0.now, a.1.0, a.1.1.0.now, a.1.1.1.0.now)) (λ κs z e. (z, e.0.now))
determined-cratehoist_append_raw =
    by append_raw_kinds_kinds.ps append_raw_kinds_kinds.r append_raw_reads.Asked append_raw_reads.Learnt _ _
    (λ x. (told (answer x.0 0 (attr x.1 x.2 x.3)), appended x.0 0 (attr x.1 x.2 x.3)))
    (λ κs a y d i q. ap₂ (λ (u : Written) (v : List ℕ). (u, v)) q.0 q.1)

pub determined-cratehoist_append_fingerprint : Determines append_fingerprint_kinds_kinds.ps append_fingerprint_kinds_kinds.r {I = List ℕ} {A = Written × List ℕ} append_fingerprint_reads.Asked append_fingerprint_reads.Learnt
    (λ κs a. a.0.now) (λ κs z e. (z, e.0.now))
determined-cratehoist_append_fingerprint =
    by append_fingerprint_kinds_kinds.ps append_fingerprint_kinds_kinds.r append_fingerprint_reads.Asked append_fingerprint_reads.Learnt _ _
    (λ x. (told (answer x 0 (fingerprint x)), appended x 0 (fingerprint x)))
    (λ κs a y d i q. ap₂ (λ (u : Written) (v : List ℕ). (u, v)) q.0 q.1)

pub determined-cratehoist_append_message_integrity : Determines append_message_integrity_kinds_kinds.ps append_message_integrity_kinds_kinds.r {I = List ℕ × List ℕ} {A = Written × List ℕ} append_message_integrity_reads.Asked append_message_integrity_reads.Learnt
    (λ κs a. (a.0.now, a.1.0.now)) (λ κs z e. (z, e.0.now))
determined-cratehoist_append_message_integrity =
    by append_message_integrity_kinds_kinds.ps append_message_integrity_kinds_kinds.r append_message_integrity_reads.Asked append_message_integrity_reads.Learnt _ _
    (λ x. (told (answer x.0 0 (integrity x.1 x.0)), appended x.0 0 (integrity x.1 x.0)))
    (λ κs a y d i q. ap₂ (λ (u : Written) (v : List ℕ). (u, v)) q.0 q.1)
