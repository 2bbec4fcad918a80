-- The contracts of the calls determine their answers.
use Rattle.std.specs.Prelude.{ℕ, Bool, List, take}
use Rattle.std.proofs.Common.{ap}
use Rattle.base.specs.DeterminedLaws.{by}
use Rattle.base.specs.Determined.{Determines}
use Rattle.crc.specs.Crc.{crc32_of}
use Rattle.utf8_spec.specs.Utf8.{is_utf8}
use Rattle.sha1_digest.specs.Sha1.{sha1}
use Rattle.hmac.specs.Hmac.{hmac_of}
use Rattle.big_endian.specs.Numbers.{with_length}
use Rattle.c_sums.specs.declared.Digest.{Digest}
use Rattle.c_sums.proofs.cratehoist_crc32.Kinds as crc32_kinds
use Rattle.c_sums.proofs.cratehoist_crc32.Reads as crc32_reads
use Rattle.c_sums.proofs.cratehoist_is_utf8.Kinds as is_utf8_kinds
use Rattle.c_sums.proofs.cratehoist_is_utf8.Reads as is_utf8_reads
use Rattle.c_sums.proofs.cratehoist_sha1.Kinds as sha1_kinds
use Rattle.c_sums.proofs.cratehoist_sha1.Reads as sha1_reads
use Rattle.c_sums.proofs.cratehoist_hmac.Kinds as hmac_kinds
use Rattle.c_sums.proofs.cratehoist_hmac.Reads as hmac_reads
use Rattle.c_sums.proofs.cratehoist_hmac_front.Kinds as hmac_front_kinds
use Rattle.c_sums.proofs.cratehoist_hmac_front.Reads as hmac_front_reads

pub determined-cratehoist_crc32 : Determines crc32_kinds.ps crc32_kinds.r {I = List ℕ} {A = ℕ} crc32_reads.Asked crc32_reads.Learnt
    (λ κs a. a.0.now) (λ κs z e. z)
determined-cratehoist_crc32 =
    by crc32_kinds.ps crc32_kinds.r crc32_reads.Asked crc32_reads.Learnt _ _
    (λ x. crc32_of x)
    (λ κs a y d i q. q)

pub determined-cratehoist_is_utf8 : Determines is_utf8_kinds.ps is_utf8_kinds.r {I = List ℕ} {A = Bool} is_utf8_reads.Asked is_utf8_reads.Learnt
    (λ κs a. a.0.now) (λ κs z e. z)
determined-cratehoist_is_utf8 =
    by is_utf8_kinds.ps is_utf8_kinds.r is_utf8_reads.Asked is_utf8_reads.Learnt _ _
    (λ x. is_utf8 x)
    (λ κs a y d i q. q)

pub determined-cratehoist_sha1 : Determines sha1_kinds.ps sha1_kinds.r {I = List ℕ} {A = Digest} sha1_reads.Asked sha1_reads.Learnt
    (λ κs a. a.0.now) (λ κs z e. z)
determined-cratehoist_sha1 =
    by sha1_kinds.ps sha1_kinds.r sha1_reads.Asked sha1_reads.Learnt _ _
    (λ x. record { bytes = sha1 x })
    (λ κs a y d i q. ap {B = Digest} (λ (b : List ℕ). record { bytes = b }) q)

pub determined-cratehoist_hmac : Determines hmac_kinds.ps hmac_kinds.r {I = List ℕ × List ℕ} {A = Digest} hmac_reads.Asked hmac_reads.Learnt
    (λ κs a. (a.0.now, a.1.0.now)) (λ κs z e. z)
determined-cratehoist_hmac =
    by hmac_kinds.ps hmac_kinds.r hmac_reads.Asked hmac_reads.Learnt _ _
    (λ x. record { bytes = hmac_of x.0 x.1 })
    (λ κs a y d i q. ap {B = Digest} (λ (b : List ℕ). record { bytes = b }) q)

pub determined-cratehoist_hmac_front : Determines hmac_front_kinds.ps hmac_front_kinds.r {I = List ℕ × List ℕ × ℕ × ℕ} {A = Digest} hmac_front_reads.Asked hmac_front_reads.Learnt
    (λ κs a. (a.0.now, a.1.0.now, a.1.1.0, a.1.1.1.0)) (λ κs z e. z)
determined-cratehoist_hmac_front =
    by hmac_front_kinds.ps hmac_front_kinds.r hmac_front_reads.Asked hmac_front_reads.Learnt _ _
    (λ x. record { bytes = hmac_of x.0 (with_length (take x.2 x.1) x.3) })
    (λ κs a y d i q. ap {B = Digest} (λ (b : List ℕ). record { bytes = b }) q)
