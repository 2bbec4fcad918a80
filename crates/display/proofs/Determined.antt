-- The contract of each public call determines its answer.
use Rattle.std.specs.Prelude.{ℕ, Bool, List}
use Rattle.base.specs.DeterminedLaws.{by}
use Rattle.base.specs.Determined.{Determines}
use Rattle.display.specs.declared.Span.{Span}
use Rattle.display.specs.Blame.{blamed}
use Rattle.display.specs.Zeros.{longest}
use Rattle.display.proofs.blame.Kinds as blame_kinds
use Rattle.display.proofs.blame.Reads as blame_reads
use Rattle.display.proofs.longest_zeros.Kinds as longest_zeros_kinds
use Rattle.display.proofs.longest_zeros.Reads as longest_zeros_reads
use Rattle.display.specs.Escape.{escaped}
use Rattle.display.proofs.escape.is_escaped.Kinds as is_escaped_kinds
use Rattle.display.proofs.escape.is_escaped.Reads as is_escaped_reads

pub determined-is_escaped : Determines is_escaped_kinds.ps is_escaped_kinds.r {I = ℕ × ℕ × ℕ} {A = Bool} is_escaped_reads.Asked is_escaped_reads.Learnt
    (λ κs a. (a.0, a.1.0, a.1.1.0)) (λ κs z e. z)
determined-is_escaped =
    by is_escaped_kinds.ps is_escaped_kinds.r is_escaped_reads.Asked is_escaped_reads.Learnt _ _ (λ x. escaped x.0 x.1 x.2) (λ κs a y d i q. q)

pub determined-blame : Determines blame_kinds.ps blame_kinds.r {I = List ℕ × ℕ × ℕ} {A = Span} blame_reads.Asked blame_reads.Learnt
    (λ κs a. (a.0.now, a.1.0, a.1.1.0)) (λ κs z e. z)
determined-blame =
    by blame_kinds.ps blame_kinds.r blame_reads.Asked blame_reads.Learnt _ _ (λ x. blamed x.0 x.1 x.2) (λ κs a y d i q. q)

pub determined-longest_zeros : Determines longest_zeros_kinds.ps longest_zeros_kinds.r {I = List ℕ} {A = Span} longest_zeros_reads.Asked longest_zeros_reads.Learnt
    (λ κs a. a.0.now) (λ κs z e. z)
determined-longest_zeros =
    by longest_zeros_kinds.ps longest_zeros_kinds.r longest_zeros_reads.Asked longest_zeros_reads.Learnt _ _ longest (λ κs a y d i q. q)
