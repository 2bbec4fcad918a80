-- The contract of the public call determines its result.
use Prim.Native.Nat.{ℕ}
use mathlib.Core.List.{List}
use Rattle.base.specs.DeterminedLaws.{by}
use Rattle.base.specs.Determined.{Determines}
use Rattle.hash_block.specs.Block.{block_of}
use Rattle.hash_block.proofs.block.Kinds as block_kinds
use Rattle.hash_block.proofs.block.Reads as block_reads

pub determined-block : Determines block_kinds.ps block_kinds.r {I = List ℕ} {A = List ℕ} block_reads.Asked block_reads.Learnt (λ κs a. a.0.now) (λ κs z e. z)
determined-block = by block_kinds.ps block_kinds.r block_reads.Asked block_reads.Learnt _ _ block_of (λ κs a y d i q. q)
