-- Bytes laid into a list from a place on.
use Rattle.std.specs.Prelude.{ℕ, List}
use Rattle.std.proofs.lemmas.List.Edits.{sets}

-- l with the bytes of s from place i on
unfoldable pub laid : List ℕ → ℕ → List ℕ → List ℕ
laid l i s = sets l i s
