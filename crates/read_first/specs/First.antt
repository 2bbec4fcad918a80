-- The first attribute of a type (docs/SCOPE.md, "The first value of a type").
use Rattle.std.specs.Prelude.{ℕ, ◌+◌, List, [], ◌∷◌, Bool, true, false, length, drop, eqb, Option, Some, None}
use Rattle.base.specs.Choice.{pick}
use Rattle.base.specs.Said.{Said, says}
use Rattle.attribute.specs.Attribute.{Attr, attrs, bytes_of, parse}
use Rattle.registry.specs.declared.Row.{Row}
use Rattle.read_message.specs.Reading.{Answer, Whole, Broken, Refused, answer_of, reading_of}
use Rattle.read_first.specs.declared.Found.{Found}

-- what an answer says: found, with the place of the attribute and the size of its value, or absent
unfoldable pub first_said : Option Found → Said
first_said (Some f) = says 0 0 (f.at ∷ f.size ∷ [])
first_said None = says 1 0 []

-- nothing, or an attribute and the place where it starts
pub data Place : Type 0 where
  none : Place
  starts : ℕ → Attr → Place

-- the first of type k among attributes of which the first starts at p
unfoldable pub first_from : ℕ → ℕ → List Attr → Place
first_from k p [] = none
first_from k p (a ∷ xs) = pick (eqb a.kind k) (starts p a) (first_from k (p + length (bytes_of a)) xs)

-- of those that stand from place 20 on
unfoldable pub first_in : ℕ → List ℕ → Place
first_in k d = first_from k 20 (attrs (parse 0 (drop 20 d)))

-- is the datagram whole?
abbrev pub whole_by : Answer → Bool
whole_by (Whole c m n) = true
whole_by (Broken c m r p) = false
whole_by (Refused n) = false

unfoldable pub is_whole : List Row → List ℕ → Bool
is_whole rows d = whole_by (answer_of (reading_of rows d))

-- every type is absent in a datagram that isn't
unfoldable pub first : List Row → ℕ → List ℕ → Place
first rows k d = pick (is_whole rows d) (first_in k d) none

-- what is told of it: its place and the size of its value; whether it is there; its value, empty where it is not; and where the
-- value starts, at the front where it is not
unfoldable pub placed : Place → Option Found
placed none = None
placed (starts p a) = Some (record { at = p; size = length a.value })

unfoldable pub is_there : Place → Bool
is_there none = false
is_there (starts p a) = true

unfoldable pub value_of : Place → List ℕ
value_of none = []
value_of (starts p a) = a.value

unfoldable pub value_at : Place → ℕ
value_at none = 0
value_at (starts p a) = p + 4
