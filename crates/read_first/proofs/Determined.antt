-- The contracts of the public calls determine what they answer: of a part, its bytes and where it lies.
use Rattle.std.specs.Prelude.{ℕ, ◌+◌, List, Bool, Option}
use Rattle.std.proofs.Common.{ap₂}
use Rattle.base.specs.DeterminedLaws.{by}
use Rattle.base.specs.Determined.{Determines}
use Rattle.registry.specs.Rows.{rfc5389}
use Rattle.read_first.specs.First.{first_in, first, placed, is_there, value_of, value_at}
use Rattle.read_first.specs.SaidLaws.{first_one}
use Rattle.read_first.specs.declared.Found.{Found}
use Rattle.read_first.proofs.search.Kinds as search_kinds
use Rattle.read_first.proofs.search.Reads as search_reads
use Rattle.read_first.proofs.find.Kinds as find_kinds
use Rattle.read_first.proofs.find.Reads as find_reads
use Rattle.read_first.proofs.has.Kinds as has_kinds
use Rattle.read_first.proofs.has.Reads as has_reads
use Rattle.read_first.proofs.first_value.Kinds as value_kinds
use Rattle.read_first.proofs.first_value.Reads as value_reads

pub determined-search : Determines search_kinds.ps search_kinds.r {I = List ℕ × ℕ} {A = Option Found} search_reads.Asked search_reads.Learnt
    (λ κs a. (a.0.now, a.1.0)) (λ κs z e. z)
determined-search =
    by search_kinds.ps search_kinds.r search_reads.Asked search_reads.Learnt _ _ (λ x. placed (first_in x.1 x.0)) (λ κs a y d i q. first_one q)

pub determined-find : Determines find_kinds.ps find_kinds.r {I = List ℕ × ℕ} {A = Option Found} find_reads.Asked find_reads.Learnt
    (λ κs a. (a.0.now, a.1.0)) (λ κs z e. z)
determined-find =
    by find_kinds.ps find_kinds.r find_reads.Asked find_reads.Learnt _ _ (λ x. placed (first rfc5389 x.1 x.0)) (λ κs a y d i q. first_one q)

pub determined-has : Determines has_kinds.ps has_kinds.r {I = List ℕ × ℕ} {A = Bool} has_reads.Asked has_reads.Learnt
    (λ κs a. (a.0.now, a.1.0)) (λ κs z e. z)
determined-has =
    by has_kinds.ps has_kinds.r has_reads.Asked has_reads.Learnt _ _ (λ x. is_there (first rfc5389 x.1 x.0)) (λ κs a y d i q. q)

pub determined-first_value : Determines value_kinds.ps value_kinds.r {I = List ℕ × (ℕ × ℕ) × ℕ} {A = List ℕ × (ℕ × ℕ)} value_reads.Asked value_reads.Learnt
    (λ κs a. (a.0.now, a.0.ref_ptr, a.1.0)) (λ κs z e. (z.now, z.ref_ptr))
determined-first_value =
    by value_kinds.ps value_kinds.r value_reads.Asked value_reads.Learnt _ _
    (λ x. (value_of (first rfc5389 x.2 x.0), (x.1.0, value_at (first rfc5389 x.2 x.0) + x.1.1)))
    (λ κs a y d i q. ap₂ (λ (u : List ℕ) (v : ℕ × ℕ). (u, v)) q.0 q.1)
