-- What an answer says, in the terms of docs/SCOPE.md: which kind of answer it is, by its place among the kinds named there, its number
-- (0 where all is well), and its values in the order in which they are named.
use Rattle.std.specs.Prelude.{ℕ, List}

pub record Said : Type 0 where
  pub kind : ℕ
  pub number : ℕ
  pub values : List ℕ

abbrev pub says : ℕ → ℕ → List ℕ → Said
says k n v = record { kind = k; number = n; values = v }
