-- The contract of each public call determines its answer.
use Rattle.std.specs.Prelude.{ℕ, List}
use Rattle.base.specs.DeterminedLaws.{by}
use Rattle.base.specs.Determined.{Determines}
use Rattle.big_endian.specs.Numbers.{be16, be32}
use Rattle.big_endian.proofs.u16_at.Kinds as u16_at_kinds
use Rattle.big_endian.proofs.u16_at.Reads as u16_at_reads
use Rattle.big_endian.proofs.u32_at.Kinds as u32_at_kinds
use Rattle.big_endian.proofs.u32_at.Reads as u32_at_reads

pub determined-u16_at : Determines u16_at_kinds.ps u16_at_kinds.r {I = List ℕ × ℕ} {A = ℕ} u16_at_reads.Asked u16_at_reads.Learnt
    (λ κs a. (a.0.now, a.1.0)) (λ κs z e. z)
determined-u16_at = by u16_at_kinds.ps u16_at_kinds.r u16_at_reads.Asked u16_at_reads.Learnt _ _ (λ x. be16 x.0 x.1) (λ κs a y d i q. q)

pub determined-u32_at : Determines u32_at_kinds.ps u32_at_kinds.r {I = List ℕ × ℕ} {A = ℕ} u32_at_reads.Asked u32_at_reads.Learnt
    (λ κs a. (a.0.now, a.1.0)) (λ κs z e. z)
determined-u32_at = by u32_at_kinds.ps u32_at_kinds.r u32_at_reads.Asked u32_at_reads.Learnt _ _ (λ x. be32 x.0 x.1) (λ κs a y d i q. q)
