-- The contract of the public call determines its result.
use Rattle.std.proofs.Common.{ℕ, ◌+◌, ◌*◌, List, length}
use Rattle.base.specs.DeterminedLaws.{by}
use Rattle.base.specs.Determined.{Determines}
use Rattle.sha1_digest.specs.Sha1.{sha1}
use Rattle.sha1_digest.proofs.hash.Kinds as hash_kinds
use Rattle.sha1_digest.proofs.hash.Reads as hash_reads
use Rattle.sha1_digest.specs.declared.compression.State.{State}
use Rattle.sha1_digest.specs.Compression.{run}
use Rattle.sha1_digest.proofs.compression.absorb.Kinds as absorb_kinds
use Rattle.sha1_digest.proofs.compression.absorb.Reads as absorb_reads
use Rattle.sha1_digest.specs.declared.compression.State.{State}
use Rattle.sha1_digest.specs.Finished.{finished}
use Rattle.sha1_digest.proofs.padding.finish.Kinds as finish_kinds
use Rattle.sha1_digest.proofs.padding.finish.Reads as finish_reads

pub determined-finish : Determines finish_kinds.ps finish_kinds.r {I = State × ℕ × List ℕ} {A = List ℕ} finish_reads.Asked finish_reads.Learnt
    (λ κs a. (a.0, a.1.0, a.1.1.0.now)) (λ κs z e. z)
determined-finish =
    by finish_kinds.ps finish_kinds.r finish_reads.Asked finish_reads.Learnt _ _
    (λ x. finished x.0 (x.1 * 64 + length x.2) x.2)
    (λ κs a y d i q. q)

pub determined-absorb : Determines absorb_kinds.ps absorb_kinds.r {I = State × List ℕ} {A = State} absorb_reads.Asked absorb_reads.Learnt
    (λ κs a. (a.0, a.1.0.now)) (λ κs z e. z)
determined-absorb = by absorb_kinds.ps absorb_kinds.r absorb_reads.Asked absorb_reads.Learnt _ _ (λ x. run x.1 x.0) (λ κs a y d i q. q)

pub determined-hash : Determines hash_kinds.ps hash_kinds.r {I = List ℕ} {A = List ℕ} hash_reads.Asked hash_reads.Learnt (λ κs a. a.0.now) (λ κs z e. z)
determined-hash = by hash_kinds.ps hash_kinds.r hash_reads.Asked hash_reads.Learnt _ _ sha1 (λ κs a y d i q. q)
