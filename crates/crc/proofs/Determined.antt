-- The contract of the public call determines its answer.
use Rattle.std.proofs.Common.{ℕ}
use Rattle.base.specs.DeterminedLaws.{by}
use Rattle.base.specs.Determined.{Determines}
use Rattle.crc.specs.Octets.{times}
use Rattle.crc.proofs.product.Kinds as product_kinds
use Rattle.crc.proofs.product.Reads as product_reads

pub determined-product : Determines product_kinds.ps product_kinds.r {I = ℕ × ℕ} {A = ℕ} product_reads.Asked product_reads.Learnt (λ κs a. (a.0, a.1.0))
    (λ κs z e. z)
determined-product = by product_kinds.ps product_kinds.r product_reads.Asked product_reads.Learnt _ _ (λ x. times 32 x.0 x.1) (λ κs a y d i q. q)
