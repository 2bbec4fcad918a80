-- A refusal by its number (docs/NUMBERS.md), and answers that are a value or a refusal.
use Rattle.std.specs.Prelude.{ℕ, List, [], eqb, Result, Ok, Err}
use Rattle.base.specs.Choice.{pick}
use Rattle.base.specs.Said.{Said, says}
use Rattle.wire.specs.declared.refusal.Refusal.{Refusal}

abbrev pub by : ℕ → Refusal
by n = record { number = n }

-- what an answer says: what was asked for, with its values, or refused by a number
unfoldable pub result_said : {A : Type 0} → (A → List ℕ) → Result A Refusal → Said
result_said values (Ok a) = says 0 0 (values a)
result_said values (Err r) = says 1 r.number []

-- nothing is refused by 0
unfoldable pub refused_by : ℕ → Result Unit Refusal
refused_by n = pick (eqb n 0) (Ok tt) (Err (by n))

-- the number of what judging comes to
abbrev pub number_of : Result Unit Refusal → ℕ
number_of (Ok u) = 0
number_of (Err r) = r.number
