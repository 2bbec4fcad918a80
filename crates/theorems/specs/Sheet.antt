-- THE SHEET (docs/SCOPE.md, "Sheet of examples"), P1 to P10: one table, and one statement over it.
use Rattle.wire.specs.Refusal.{by}
use Rattle.std.specs.Prelude.{ℕ, ◌+◌, ◌≤◌, List, [], ◌∷◌, ◌++◌, ◌≡◌, refl, length, take, drop, replicate, Ok, Err}
use Rattle.base.specs.Said.{Said, says}
use Rattle.base.specs.Same.{same}
use Rattle.base.specs.Laid.{laid}
use Rattle.big_endian.specs.Numbers.{be16, two}
use Rattle.buffers.specs.Put.{fits_at, put}
use Rattle.cookie.specs.Cookie.{cookie, cookie_at}
use Rattle.wire.specs.TypeNumber.{type_of, class_of, method_of, class_numbered}
use Rattle.header.specs.Header.{front_fault, header_fault, id_of}
use Rattle.net.specs.Net.{xored, addr_xor}
use Rattle.attribute.specs.Attribute.{padded, Attr, stop, more, parse}
use Rattle.attribute.specs.Scan.{scan, scanned}
use Rattle.utf8_spec.specs.Utf8.{is_utf8, goes}
use Rattle.registry.specs.Rows.{rfc5389, look, entry_said, rule_in}
use Rattle.registry.specs.ErrorCode.{code_of}
use Rattle.registry.specs.Fault.{fault, entry_fault, rule_fault, address_fault, code_fault}
use Rattle.read_fingerprints.specs.Fingerprints.{print_faults, print_fault}
use Rattle.read_message.specs.Reading.{answer_said, reading_of, outcome, value_faults, answer_of, id_in}
use Rattle.read_first.specs.First.{first_from, first_in, is_whole, first, value_of}
use Rattle.read_typed.specs.Typed.{value_said, typed_said, ip_of, address_of, read_of, typed_of}
use Rattle.write_plan.specs.Plan.{message_fault, covers, plan_of}
use Rattle.write_raw.specs.Append.{attr, answered, written, plan_for, answer, appended}
use Rattle.round_trip.specs.Message.{write, said}
use Rattle.round_trip.specs.Longest.{zeros, longest}

-- a row: what goes in, and what must come out
pub data Row : Type 0 where
  -- class, method, and their type number
  numbers : ℕ → ℕ → ℕ → Row
  -- a datagram, and what its reading says but for the ID
  reads : List ℕ → Said → Row
  -- a datagram, a type, and what typed reading says of its first value
  serves : List ℕ → ℕ → Said → Row
  -- an attribute of no known type: its bytes, and what it is
  keeps : List ℕ → Attr → Row
  -- the size of a value with which a message has the longest body, and that of the message
  fills : ℕ → ℕ → Row

-- a header: its type, its body length, the cookie, and the ID 0, 1, .. 11
abbrev pub header : ℕ → ℕ → List ℕ
header t l = two t ++ two l ++ cookie ++ (0 ∷ 1 ∷ 2 ∷ 3 ∷ 4 ∷ 5 ∷ 6 ∷ 7 ∷ 8 ∷ 9 ∷ 10 ∷ 11 ∷ [])

-- what a row says
abbrev pub Holds : Row → Type 0
Holds (numbers c m t) = (type_of c m ≡ t) × (class_of t ≡ c) × (method_of t ≡ m)
Holds (reads d s) = answer_said (answer_of (reading_of rfc5389 d)) [] ≡ s
Holds (serves d k s) = typed_said (typed_of rfc5389 k (value_of (first rfc5389 k d)) (record { bytes = id_in (reading_of rfc5389 d) })) ≡ s
Holds (keeps b a) =
    (entry_said (look rfc5389 a.kind) ≡ says 1 0 []) × (parse 0 b ≡ more a (stop []))
    × (appended (header 1 0 ++ replicate {A = ℕ} (length b) 0) 0 a ≡ header 1 (length b) ++ b)
Holds (fills n t) =
    (b : List ℕ) → t ≤ length b
    → (said b (zeros n) ≡ Ok t)
    × ((a : Attr) → length a.value + length a.pad ≡ padded (length a.value) → answer (write b (zeros n)) 0 a ≡ Err (by 25))

abbrev Each : List Row → Type 0
Each [] = Unit {0}
Each (r ∷ rs) = Holds r × Each rs

-- P7, and an error response with an ERROR-CODE of four bytes
abbrev response : List ℕ
response = header 0x0101 12 ++ (0x00 ∷ 0x20 ∷ 0x00 ∷ 0x08 ∷ 0x00 ∷ 0x01 ∷ 0xA1 ∷ 0x47 ∷ 0xE1 ∷ 0x12 ∷ 0xA6 ∷ 0x43 ∷ [])

abbrev error : List ℕ → List ℕ
error v = header 0x0111 8 ++ (0x00 ∷ 0x09 ∷ 0x00 ∷ 0x04 ∷ v)

-- whole and broken have class, method and then the count or the place; a typed value has 16 bytes of IP last
abbrev pub sheet : List Row
sheet =
    -- P1
    numbers 0 1 0x0001
    ∷ numbers 1 1 0x0011
    ∷ numbers 2 1 0x0101
    ∷ numbers 3 1 0x0111
    -- P2
    ∷ numbers 0 16 0x0020
    ∷ numbers 0 128 0x0200
    ∷ numbers 0 4095 0x3EEF
    ∷ numbers 3 4095 0x3FFF
    -- P3
    ∷ reads (header 0x0001 0) (says 0 0 (0 ∷ 1 ∷ 0 ∷ []))
    ∷ reads (take 19 (header 0x0001 0)) (says 2 1 [])
    -- P4
    ∷ reads (two 0x4001 ++ replicate {A = ℕ} 6 0 ++ drop 8 (header 0x4001 0)) (says 2 2 [])
    -- P5
    ∷ reads (header 0x0001 4) (says 2 4 [])
    -- P6
    ∷ reads (header 0x0001 3 ++ replicate {A = ℕ} 3 0) (says 1 10 (0 ∷ 1 ∷ 20 ∷ []))
    -- P7
    ∷ reads response (says 0 0 (2 ∷ 1 ∷ 1 ∷ []))
    ∷ serves response 0x0020 (says 0 0 (1 ∷ 32853 ∷ 192 ∷ 0 ∷ 2 ∷ 1 ∷ replicate 12 0))
    -- P8
    ∷ keeps (0xC0 ∷ 0x01 ∷ 0x00 ∷ 0x01 ∷ 0x07 ∷ 0xAA ∷ 0xBB ∷ 0xCC ∷ []) (attr 0xC001 (0x07 ∷ []) (0xAA ∷ 0xBB ∷ 0xCC ∷ []))
    -- P9
    ∷ reads (error (0x00 ∷ 0x00 ∷ 0x06 ∷ 0x00 ∷ [])) (says 0 0 (3 ∷ 1 ∷ 1 ∷ []))
    ∷ serves (error (0x00 ∷ 0x00 ∷ 0x06 ∷ 0x00 ∷ [])) 0x0009 (says 1 0 (600 ∷ 0 ∷ replicate 16 0))
    ∷ serves (error (0xFF ∷ 0xFF ∷ 0xFE ∷ 0x00 ∷ [])) 0x0009 (says 1 0 (600 ∷ 2097151 ∷ replicate 16 0))
    ∷ serves (error (0x5A ∷ 0xA5 ∷ 0x5C ∷ 0x01 ∷ [])) 0x0009 (says 1 0 (401 ∷ 742571 ∷ replicate 16 0))
    ∷ reads (error (0x00 ∷ 0x00 ∷ 0x02 ∷ 0x00 ∷ [])) (says 1 13 (3 ∷ 1 ∷ 20 ∷ []))
    ∷ reads (error (0x00 ∷ 0x00 ∷ 0x03 ∷ 0x64 ∷ [])) (says 1 13 (3 ∷ 1 ∷ 20 ∷ []))
    -- P10
    ∷ fills 65528 65552
    ∷ []

pub holds : Each sheet
unfolding type_of class_of method_of answer_said reading_of outcome scanned scan parse value_faults print_faults print_fault fault look rule_in entry_fault rule_fault address_fault code_fault is_utf8 goes header_fault front_fault be16 cookie_at same class_numbered id_of first first_in first_from is_whole value_of typed_said value_said typed_of read_of address_of code_of ip_of put fits_at laid addr_xor xored entry_said appended plan_for plan_of written answered message_fault covers
holds =
    ((refl, refl, refl), ((refl, refl, refl), ((refl, refl, refl), ((refl, refl, refl), ((refl, refl, refl), ((refl, refl, refl), ((refl, refl, refl), ((refl, refl, refl), (refl, (refl, (refl, (refl, (refl, (refl, (refl, ((refl, refl, refl), (refl, (refl, (refl, (refl, (refl, (refl, (longest, tt)))))))))))))))))))))))
