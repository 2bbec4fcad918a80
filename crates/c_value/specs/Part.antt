-- What C is told of the first attribute of a type, and of a part: what the library's answer says, field by field.
use Rattle.std.specs.Prelude.{ℕ, List, eqb, length, get_or}
use Rattle.base.specs.Said.{Said}
use Rattle.registry.specs.Rows.{rfc5389}
use Rattle.read_first.specs.First.{Place, first, is_there, value_of, value_at}
use Rattle.read_realm.specs.Realm.{realm_of}
use Rattle.c_value.specs.declared.First.{First}
use Rattle.c_value.specs.declared.Part.{Part}

-- found is kind 0, with place and size; absent says nothing more
unfoldable pub first_out : Said → First
first_out s = record { there = eqb s.kind 0; place = get_or s.values 0 0; size = get_or s.values 1 0 }

-- a value, as a part of the datagram
unfoldable pub value_in : Place → Part
value_in x = record { there = is_there x; start = value_at x; size = length (value_of x) }

-- the realm to use: where it is not there, the whole of the configured one
unfoldable pub realm_in : List ℕ → List ℕ → Part
realm_in d s = record {
  there = is_there (first rfc5389 0x0014 d);
  start = value_at (first rfc5389 0x0014 d);
  size = length (realm_of rfc5389 d s);
}
