-- What a person reads: the names of attributes (RFC 5389 section 18.2), of error codes (section 15.6), of the numbers (docs/NUMBERS.md), of
-- classes and methods; a table for each.
use Rattle.std.specs.Prelude.{ℕ, List, [], ◌∷◌, eqb}
use Prim.Native.String.{String}
use Rattle.base.specs.Choice.{pick}
use Rattle.wire.specs.TypeNumber.{class_number}
use Rattle.wire.specs.declared.types.MessageClass.{MessageClass}
use Rattle.names.specs.Ascii.{ascii}

-- a number and its name
pub record Row : Type 0 where
  pub number : ℕ
  pub name : List ℕ

abbrev named : ℕ → String → Row
named n s = record { number = n; name = ascii s }

-- attribute types
abbrev pub attributes : List Row
attributes =
    named 0x0001 "MAPPED-ADDRESS"
    ∷ named 0x0006 "USERNAME"
    ∷ named 0x0008 "MESSAGE-INTEGRITY"
    ∷ named 0x0009 "ERROR-CODE"
    ∷ named 0x000A "UNKNOWN-ATTRIBUTES"
    ∷ named 0x0014 "REALM"
    ∷ named 0x0015 "NONCE"
    ∷ named 0x0020 "XOR-MAPPED-ADDRESS"
    ∷ named 0x8022 "SOFTWARE"
    ∷ named 0x8023 "ALTERNATE-SERVER"
    ∷ named 0x8028 "FINGERPRINT"
    ∷ []

-- error codes
abbrev pub codes : List Row
codes =
    named 300 "Try Alternate"
    ∷ named 400 "Bad Request"
    ∷ named 401 "Unauthorized"
    ∷ named 420 "Unknown Attribute"
    ∷ named 438 "Stale Nonce"
    ∷ named 500 "Server Error"
    ∷ []

-- numbers
abbrev pub numbers : List Row
numbers =
    named 0 "all is well"
    ∷ named 1 "too short"
    ∷ named 2 "first bits not zero"
    ∷ named 3 "no cookie"
    ∷ named 4 "size and length disagree"
    ∷ named 10 "attribute cut off"
    ∷ named 11 "wrong size"
    ∷ named 12 "no such address"
    ∷ named 13 "no such error code"
    ∷ named 14 "text not UTF-8"
    ∷ named 15 "fingerprint differs"
    ∷ named 21 "no message to add to"
    ∷ named 22 "no such method"
    ∷ named 23 "value not allowed"
    ∷ named 24 "wrong padding"
    ∷ named 25 "message full"
    ∷ named 26 "buffer too small"
    ∷ named 31 "not signed"
    ∷ named 32 "signature differs"
    ∷ []

abbrev pub classes : List Row
classes =
    named 0 "request"
    ∷ named 1 "indication"
    ∷ named 2 "success response"
    ∷ named 3 "error response"
    ∷ []

abbrev pub methods : List Row
methods =
    named 1 "Binding"
    ∷ []

-- the name of a number in a table, of no letters where it has none
unfoldable pub find : List Row → ℕ → List ℕ
find [] n = []
find (r ∷ rs) n = pick (eqb r.number n) r.name (find rs n)

unfoldable pub attribute_name : ℕ → List ℕ
attribute_name n = find attributes n

unfoldable pub code_name : ℕ → List ℕ
code_name n = find codes n

unfoldable pub number_name : ℕ → List ℕ
number_name n = find numbers n

unfoldable pub class_name : MessageClass → List ℕ
class_name c = find classes (class_number c)

unfoldable pub method_name : ℕ → List ℕ
method_name n = find methods n
