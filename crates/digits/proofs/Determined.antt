-- The contract of each public call determines its answer.
use Rattle.std.specs.Prelude.{ℕ, List, Option}
use Rattle.base.specs.DeterminedLaws.{by}
use Rattle.base.specs.Determined.{Determines}
use Rattle.digits.specs.Digit.{first_bad}
use Rattle.digits.specs.Number.{number_of}
use Rattle.digits.specs.SaidLaws.{number_one}
use Rattle.digits.proofs.first_bad.Kinds as first_bad_kinds
use Rattle.digits.proofs.first_bad.Reads as first_bad_reads
use Rattle.digits.proofs.number_of.Kinds as number_of_lem_kinds
use Rattle.digits.proofs.number_of.Reads as number_of_reads

pub determined-first_bad : Determines first_bad_kinds.ps first_bad_kinds.r {I = List ℕ} {A = ℕ} first_bad_reads.Asked first_bad_reads.Learnt
    (λ κs a. a.0.now) (λ κs z e. z)
determined-first_bad = by first_bad_kinds.ps first_bad_kinds.r first_bad_reads.Asked first_bad_reads.Learnt _ _ first_bad (λ κs a y d i q. q)

pub determined-number_of : Determines number_of_lem_kinds.ps number_of_lem_kinds.r {I = List ℕ} {A = Option ℕ} number_of_reads.Asked number_of_reads.Learnt
    (λ κs a. a.0.now) (λ κs z e. z)
determined-number_of = by number_of_lem_kinds.ps number_of_lem_kinds.r number_of_reads.Asked number_of_reads.Learnt _ _ number_of (λ κs a y d i q. number_one q)
