-- The contract of each public call determines its result.
use Rattle.std.proofs.Common.{ℕ, List, take, Bool}
use Rattle.base.specs.DeterminedLaws.{by}
use Rattle.base.specs.Determined.{Determines}
use Rattle.big_endian.specs.Numbers.{with_length}
use Rattle.hmac.specs.Hmac.{hmac_of}
use Rattle.base.specs.Same.{same}
use Rattle.hmac.proofs.hmac.Kinds as hmac_kinds
use Rattle.hmac.proofs.hmac.Reads as hmac_reads
use Rattle.hmac.proofs.hmac_front.Kinds as front_kinds
use Rattle.hmac.proofs.hmac_front.Reads as front_reads
use Rattle.hmac.proofs.digests.same_digest.Kinds as same_digest_kinds
use Rattle.hmac.proofs.digests.same_digest.Reads as same_digest_reads

pub determined-same_digest : Determines same_digest_kinds.ps same_digest_kinds.r {I = List ℕ × List ℕ} {A = Bool} same_digest_reads.Asked same_digest_reads.Learnt
    (λ κs a. (a.0, a.1.0.now)) (λ κs z e. z)
determined-same_digest =
    by same_digest_kinds.ps same_digest_kinds.r same_digest_reads.Asked same_digest_reads.Learnt _ _
    (λ x. same x.0 x.1)
    (λ κs a y d i q. q)

pub determined-hmac : Determines hmac_kinds.ps hmac_kinds.r {I = List ℕ × List ℕ} {A = List ℕ} hmac_reads.Asked hmac_reads.Learnt
    (λ κs a. (a.0.now, a.1.0.now)) (λ κs z e. z)
determined-hmac = by hmac_kinds.ps hmac_kinds.r hmac_reads.Asked hmac_reads.Learnt _ _ (λ x. hmac_of x.0 x.1) (λ κs a y d i q. q)

pub determined-hmac_front : Determines front_kinds.ps front_kinds.r {I = List ℕ × List ℕ × ℕ × ℕ} {A = List ℕ} front_reads.Asked front_reads.Learnt
    (λ κs a. (a.0.now, a.1.0.now, a.1.1.0, a.1.1.1.0)) (λ κs z e. z)
determined-hmac_front =
    by front_kinds.ps front_kinds.r front_reads.Asked front_reads.Learnt _ _
    (λ x. hmac_of x.0 (with_length (take x.2 x.1) x.3))
    (λ κs a y d i q. q)
