-- The contract of each public call determines its answer and each byte of a lent buffer.
use Rattle.std.specs.Prelude.{ℕ, Bool, List}
use Rattle.std.proofs.Common.{ap₂}
use Rattle.base.specs.DeterminedLaws.{by}
use Rattle.base.specs.Determined.{Determines}
use Rattle.big_endian.specs.Numbers.{two, four}
use Rattle.buffers.specs.Put.{fits_at, put}
use Rattle.buffers.proofs.put_bytes.Kinds as put_bytes_kinds
use Rattle.buffers.proofs.put_bytes.Reads as put_bytes_reads
use Rattle.buffers.proofs.put_u16.Kinds as put_u16_kinds
use Rattle.buffers.proofs.put_u16.Reads as put_u16_reads
use Rattle.buffers.proofs.put_u32.Kinds as put_u32_kinds
use Rattle.buffers.proofs.put_u32.Reads as put_u32_reads

pub determined-put_bytes : Determines put_bytes_kinds.ps put_bytes_kinds.r {I = List ℕ × ℕ × List ℕ} {A = Bool × List ℕ} put_bytes_reads.Asked put_bytes_reads.Learnt
    (λ κs a. (a.0.now, a.1.0, a.1.1.0.now)) (λ κs z e. (z, e.0.now))
determined-put_bytes =
    by put_bytes_kinds.ps put_bytes_kinds.r put_bytes_reads.Asked put_bytes_reads.Learnt _ _
    (λ x. (fits_at x.0 x.1 x.2, put x.0 x.1 x.2))
    (λ κs a y d i q. ap₂ (λ (u : Bool) (v : List ℕ). (u, v)) q.0 q.1)

pub determined-put_u16 : Determines put_u16_kinds.ps put_u16_kinds.r {I = List ℕ × ℕ × ℕ} {A = Bool × List ℕ} put_u16_reads.Asked put_u16_reads.Learnt
    (λ κs a. (a.0.now, a.1.0, a.1.1.0)) (λ κs z e. (z, e.0.now))
determined-put_u16 =
    by put_u16_kinds.ps put_u16_kinds.r put_u16_reads.Asked put_u16_reads.Learnt _ _
    (λ x. (fits_at x.0 x.1 (two x.2), put x.0 x.1 (two x.2)))
    (λ κs a y d i q. ap₂ (λ (u : Bool) (v : List ℕ). (u, v)) q.0 q.1)

pub determined-put_u32 : Determines put_u32_kinds.ps put_u32_kinds.r {I = List ℕ × ℕ × ℕ} {A = Bool × List ℕ} put_u32_reads.Asked put_u32_reads.Learnt
    (λ κs a. (a.0.now, a.1.0, a.1.1.0)) (λ κs z e. (z, e.0.now))
determined-put_u32 =
    by put_u32_kinds.ps put_u32_kinds.r put_u32_reads.Asked put_u32_reads.Learnt _ _
    (λ x. (fits_at x.0 x.1 (four x.2), put x.0 x.1 (four x.2)))
    (λ κs a y d i q. ap₂ (λ (u : Bool) (v : List ℕ). (u, v)) q.0 q.1)
