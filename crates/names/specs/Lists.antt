-- Lists of numbers under names of their own, beside texts, which share their constructors' signs.
use Rattle.std.specs.Prelude.{ℕ, List, [], ◌∷◌}

abbrev pub none : List ℕ
none = []

abbrev pub then : ℕ → List ℕ → List ℕ
then n l = n ∷ l
