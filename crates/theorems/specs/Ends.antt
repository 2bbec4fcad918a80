-- A whole datagram that ends in a FINGERPRINT, under a list of types: what demand 3 speaks of (docs/SCOPE.md, "FINGERPRINT").
use Rattle.std.specs.Prelude.{ℕ, List, [], ◌∷◌, ◌++◌, ◌≡◌}
use Rattle.base.specs.Bytes.{Bytes}
use Rattle.attribute.specs.Attribute.{Attr}
use Rattle.registry.specs.declared.Row.{Row}
use Rattle.read_message.specs.Whole.{Whole, attributes}

pub record Ends (rows : List Row) (d : List ℕ) : Type 0 where
  pub bytes : Bytes d
  pub whole : Whole rows d
  pub before : List Attr
  pub print : Attr
  pub last : attributes d ≡ before ++ (print ∷ [])
  pub kind : print.kind ≡ 0x8028
