-- A message and its bytes (RFC 5389 section 6; docs/SCOPE.md, "The datagram", "Writing again what was read").
use Rattle.std.specs.Prelude.{ℕ, ◌≤◌, ◌<◌, List, [], ◌∷◌, ◌++◌, ◌≡◌, length, take, drop, Result, Ok}
use Rattle.base.specs.Bytes.{Bytes}
use Rattle.big_endian.specs.Numbers.{be16}
use Rattle.wire.specs.TypeNumber.{type_of, class_of, method_of, class_number, class_numbered}
use Rattle.wire.specs.declared.method.Method.{Method}
use Rattle.wire.specs.declared.transaction_id.TransactionId.{TransactionId}
use Rattle.wire.specs.declared.types.MessageClass.{MessageClass}
use Rattle.header.specs.Header.{header_fault, id_of}
use Rattle.attribute.specs.Attribute.{Attr, attrs, rest, parse, all_bytes}
use Rattle.attribute.specs.Good.{Goods}
use Rattle.attribute.specs.Scan.{Pass}
use Rattle.registry.specs.declared.Row.{Row}
use Rattle.read_fingerprints.specs.Fingerprints.{print_faults}
use Rattle.read_message.specs.Reading.{value_faults}
use Rattle.read_message.specs.declared.Reading.{Reading}
use Rattle.write_plan.specs.Plan.{size_of}
use Rattle.write_begin.specs.Begin.{head_bytes, begun, beginning}
use Rattle.wire.specs.declared.refusal.Refusal.{Refusal}
use Rattle.write_raw.specs.Append.{answer, appended}

pub record Message : Type 0 where
  pub class : MessageClass
  pub method : Method
  pub id : TransactionId
  pub attributes : List Attr

-- its bytes: the header, then the attributes
unfoldable pub bytes_of : Message → List ℕ
bytes_of m =
    head_bytes (type_of (class_number m.class) m.method.code) (length (all_bytes m.attributes)) m.id.bytes ++ all_bytes m.attributes

-- the message that a datagram holds
unfoldable pub message_of : List ℕ → Message
message_of d = record {
  class = class_numbered (class_of (be16 d 0));
  method = record { code = method_of (be16 d 0) };
  id = record { bytes = id_of d };
  attributes = attrs (parse 0 (drop 20 d));
}

abbrev pub Octets : List Attr → Type 0
Octets [] = Unit {0}
Octets (a ∷ xs) = Bytes a.value × Bytes a.pad × Octets xs

-- a message within the rules: a method of 12 bits, an ID of 12 bytes, types and sizes of 16 bits, the right padding, a body of at most 65,532 bytes
pub record Shaped (m : Message) : Type 0 where
  pub method : m.method.code < 4096
  pub id : length m.id.bytes ≡ 12
  pub attributes : Goods m.attributes
  pub body : length (all_bytes m.attributes) ≤ 65532

-- and whose bytes are bytes
pub record Writable (m : Message) : Type 0 where
  pub shape : Shaped m
  pub id_octets : Bytes m.id.bytes
  pub octets : Octets m.attributes

-- a datagram within the rules: bytes that no check of the header refuses, and attributes that cover the body
pub record Sound (d : List ℕ) : Type 0 where
  pub octets : Bytes d
  pub header : header_fault d ≡ 0
  pub covered : rest (parse 0 (drop 20 d)) ≡ []

-- a message written into a buffer: begin, then a raw append for each attribute; the buffer, and the last answer
abbrev pub write_from : List ℕ → List Attr → List ℕ
write_from d [] = d
write_from d (a ∷ xs) = write_from (appended d 0 a) xs

abbrev pub said_from : Result ℕ Refusal → List ℕ → List Attr → Result ℕ Refusal
said_from w d [] = w
said_from w d (a ∷ xs) = said_from (answer d 0 a) (appended d 0 a) xs

abbrev pub write : List ℕ → Message → List ℕ
write d m = write_from (beginning d m.class m.method m.id) m.attributes

abbrev pub said : List ℕ → Message → Result ℕ Refusal
said d m = said_from (begun d m.method) (beginning d m.class m.method m.id) m.attributes

-- a message with one attribute more
abbrev pub with : Message → Attr → Message
with m a = record { class = m.class; method = m.method; id = m.id; attributes = m.attributes ++ (a ∷ []) }

-- the message at the front of a buffer
abbrev pub held : List ℕ → Message
held d = message_of (take (size_of d) d)

-- a message within the rules whose values and FINGERPRINTs pass, under a list of types
pub record Right (rows : List Row) (m : Message) : Type 0 where
  pub shape : Shaped m
  pub values : Pass (value_faults rows) 20 m.attributes
  pub prints : Pass (print_faults (bytes_of m)) 20 m.attributes

-- what its reading is: whole, with its class, method, ID and number of attributes
abbrev pub whole_with : Message → Result Reading Refusal
whole_with m = Ok (record { class = m.class; method = m.method; id = m.id; attributes = Ok (length m.attributes) })
