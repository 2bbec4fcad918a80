-- The contract of each public call determines its answer and each byte of a lent buffer.
use Rattle.std.specs.Prelude.{ℕ, List, Result}
use Rattle.std.proofs.Common.{ap₂}
use Rattle.base.specs.DeterminedLaws.{by}
use Rattle.base.specs.Determined.{Determines}
use Rattle.hex_text.specs.Hex.{hex_of, read, shown, showing}
use Rattle.hex_text.specs.declared.HexFault.{HexFault}
use Rattle.hex_text.specs.SaidLaws.{hex_one}
use Rattle.hex_text.proofs.unhex.Kinds as unhex_kinds
use Rattle.hex_text.proofs.unhex.Reads as unhex_reads
use Rattle.hex_text.proofs.show.Kinds as show_kinds
use Rattle.hex_text.proofs.show.Reads as show_reads

pub determined-unhex : Determines unhex_kinds.ps unhex_kinds.r {I = List ℕ × List ℕ} {A = Result ℕ HexFault × List ℕ} unhex_reads.Asked unhex_reads.Learnt
    (λ κs a. (a.0.now, a.1.0.now)) (λ κs z e. (z, e.1.0.now))
determined-unhex =
    by unhex_kinds.ps unhex_kinds.r unhex_reads.Asked unhex_reads.Learnt _ _
    (λ x. (hex_of x.0, read (hex_of x.0) x.1 x.0))
    (λ κs a y d i q. ap₂ (λ (h : Result ℕ HexFault) (l : List ℕ). (h, l)) (hex_one q.0) q.1)

pub determined-show : Determines show_kinds.ps show_kinds.r {I = List ℕ × List ℕ} {A = ℕ × List ℕ} show_reads.Asked show_reads.Learnt
    (λ κs a. (a.0.now, a.1.0.now)) (λ κs z e. (z, e.1.0.now))
determined-show =
    by show_kinds.ps show_kinds.r show_reads.Asked show_reads.Learnt _ _
    (λ x. (shown x.1 x.0, showing x.1 x.0))
    (λ κs a y d i q. ap₂ (λ (n : ℕ) (l : List ℕ). (n, l)) q.0 q.1)
