-- The reading of a datagram: number, class, method, ID, count, place, in the order of the checks (docs/SCOPE.md, "Reading a datagram").
use Rattle.std.specs.Prelude.{ℕ, List, ◌∷◌, replicate, eqb, Result, Ok, Err}
use Rattle.base.specs.Choice.{pick}
use Rattle.base.specs.Said.{Said, says}
use Rattle.big_endian.specs.Numbers.{be16}
use Rattle.wire.specs.Refusal.{by}
use Rattle.wire.specs.TypeNumber.{class_of, method_of, class_number, class_numbered}
use Rattle.wire.specs.declared.method.Method.{Method}
use Rattle.wire.specs.declared.refusal.Refusal.{Refusal}
use Rattle.wire.specs.declared.types.MessageClass.{MessageClass}
use Rattle.header.specs.Header.{header_fault, id_of}
use Rattle.attribute.specs.Attribute.{Attr}
use Rattle.attribute.specs.Scan.{Scan, scanned}
use Rattle.registry.specs.Fault.{fault}
use Rattle.registry.specs.declared.Row.{Row}
use Rattle.read_fingerprints.specs.Fingerprints.{print_faults}
use Rattle.read_message.specs.declared.Reading.{Reading}

-- 11 to 14, by the attribute's type and value
unfoldable pub value_faults : List Row → ℕ → Attr → ℕ
value_faults rows p a = fault rows a.kind a.value

-- the attributes from the first, and only if all pass, each FINGERPRINT in order
abbrev pub and_then : Scan → Scan → Scan
and_then (Ok n) s = s
and_then (Err f) s = Err f

unfoldable pub outcome : List Row → List ℕ → Scan
outcome rows d = and_then (scanned (value_faults rows) d) (scanned (print_faults d) d)

-- the reading under a list of types
unfoldable pub reading_of : List Row → List ℕ → Result Reading Refusal
reading_of rows d =
    pick (eqb (header_fault d) 0)
    (Ok (record {
      class = class_numbered (class_of (be16 d 0));
      method = record { code = method_of (be16 d 0) };
      id = record { bytes = id_of d };
      attributes = outcome rows d;
    }))
    (Err (by (header_fault d)))

-- a reading is one of three: whole, with class, method and the number of attributes; broken by a reason, with class, method and the place
-- of the attribute at fault; or refused by a number alone
pub data Answer : Type 0 where
  Whole : MessageClass → Method → ℕ → Answer
  Broken : MessageClass → Method → ℕ → ℕ → Answer
  Refused : ℕ → Answer

abbrev pub answered : MessageClass → Method → Scan → Answer
answered c m (Ok n) = Whole c m n
answered c m (Err f) = Broken c m f.reason.number f.place

abbrev pub answer_of : Result Reading Refusal → Answer
answer_of (Ok r) = answered r.class r.method r.attributes
answer_of (Err r) = Refused r.number

-- the bytes of the ID; twelve zeros where refused
abbrev pub id_in : Result Reading Refusal → List ℕ
id_in (Ok r) = r.id.bytes
id_in (Err r) = replicate 12 0

-- what an answer says, and the bytes of the ID
unfoldable pub answer_said : Answer → List ℕ → Said
answer_said (Whole c m n) i = says 0 0 (class_number c ∷ m.code ∷ n ∷ i)
answer_said (Broken c m r p) i = says 1 r (class_number c ∷ m.code ∷ p ∷ i)
answer_said (Refused n) i = says 2 n i

unfoldable pub reading_said : Result Reading Refusal → Said
reading_said r = answer_said (answer_of r) (id_in r)
