-- The characters of a text, each by its number.
use Rattle.std.specs.Prelude.{ℕ, List}
use Prim.Native.Char.{code}
use Prim.Native.String.{String, [], ◌∷◌}
use Rattle.names.specs.Lists.{none, then}

abbrev pub ascii : String → List ℕ
ascii [] = none
ascii (c ∷ s) = then (code c) (ascii s)
