-- A whole datagram, under a list of types (docs/SCOPE.md, "Reading a datagram"), and its attributes.
use Rattle.std.specs.Prelude.{ℕ, List, ◌≡◌, drop}
use Rattle.attribute.specs.Attribute.{Attr, attrs, parse}
use Rattle.registry.specs.declared.Row.{Row}
use Rattle.read_message.specs.Reading.{reading_said, reading_of}

-- the reading's number is 0
unfoldable pub Whole : List Row → List ℕ → Type 0
Whole rows d = (reading_said (reading_of rows d)).number ≡ 0

-- the attributes from place 20 on
abbrev pub attributes : List ℕ → List Attr
attributes d = attrs (parse 0 (drop 20 d))
