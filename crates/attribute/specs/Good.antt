-- An attribute within the rules: a type and a size of 16 bits, and as much padding as the size wants (docs/SCOPE.md, "An attribute").
use Rattle.std.specs.Prelude.{◌+◌, ◌<◌, List, [], ◌∷◌, ◌≡◌, length}
use Rattle.attribute.specs.Attribute.{padded, Attr}

pub record Good (a : Attr) : Type 0 where
  pub kind_fits : a.kind < 65536
  pub size_fits : length a.value < 65536
  pub padding : length a.value + length a.pad ≡ padded (length a.value)

abbrev pub Goods : List Attr → Type 0
Goods [] = Unit {0}
Goods (a ∷ xs) = Good a × Goods xs
