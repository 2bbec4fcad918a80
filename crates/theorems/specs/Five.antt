-- Five neighbouring bytes are too many for demand 3: two whole datagrams, each ending in a FINGERPRINT, that differ in just five.
use Rattle.std.specs.Prelude.{ℕ, List, [], ◌∷◌, ◌++◌, ◌≡◌, refl, length, get_or, take, drop}
use Rattle.std.proofs.Common.{ap, arith}
use Rattle.base.specs.BytesLaws.{tested}
use Rattle.base.specs.Same.{same}
use Rattle.big_endian.specs.Numbers.{be16, with_length}
use Rattle.cookie.specs.Cookie.{cookie_at}
use Rattle.header.specs.Header.{front_fault, header_fault}
use Rattle.crc.specs.Crc.{bit_step, bit_steps, byte_step, bytes_from, crc32_of}
use Rattle.attribute.specs.Attribute.{parse}
use Rattle.attribute.specs.Scan.{scan, scanned}
use Rattle.fingerprint.specs.Fingerprint.{fingerprint_at, printed}
use Rattle.registry.specs.Rows.{look, rfc5389}
use Rattle.registry.specs.Fault.{rule_fault, entry_fault, fault}
use Rattle.read_fingerprints.specs.Fingerprints.{print_fault, print_faults}
use Rattle.read_message.specs.Reading.{answer_said, reading_said, value_faults, outcome, reading_of}
use Rattle.read_message.specs.Whole.{Whole, attributes}
use Rattle.theorems.specs.Ends.{Ends}

-- a Binding request with an unknown attribute of eight bytes and a FINGERPRINT
abbrev pub holding : List ℕ → List ℕ
holding v =
    0x00 ∷ 0x01 ∷ 0x00 ∷ 0x14 ∷ 0x21 ∷ 0x12 ∷ 0xA4 ∷ 0x42 ∷ 0 ∷ 1 ∷ 2 ∷ 3 ∷ 4 ∷ 5 ∷ 6 ∷ 7 ∷ 8 ∷ 9 ∷ 10 ∷ 11 ∷ 0xC0 ∷ 0x01 ∷ 0x00 ∷ 0x08 ∷ v
    ++ 0x80 ∷ 0x28 ∷ 0x00 ∷ 0x04 ∷ 0x77 ∷ 0x6F ∷ 0xD8 ∷ 0x0A ∷ []

abbrev pub one : List ℕ
one = holding (0 ∷ 0 ∷ 0 ∷ 0 ∷ 0 ∷ 0 ∷ 0 ∷ 0 ∷ [])

abbrev pub other : List ℕ
other = holding (0x41 ∷ 0x06 ∷ 0x71 ∷ 0xDB ∷ 0x01 ∷ 0 ∷ 0 ∷ 0 ∷ [])

-- both are whole under the list of RFC 5389, and each ends in a FINGERPRINT
pub one_ends : Ends rfc5389 one
unfolding Whole answer_said reading_said reading_of outcome scanned scan value_faults print_faults print_fault fault entry_fault look rule_fault printed fingerprint_at crc32_of bytes_from byte_step bit_steps bit_step with_length same header_fault front_fault be16 cookie_at parse
one_ends = record {
  bytes = tested one refl;
  whole = refl;
  before = take 1 (attributes one);
  print = record { kind = 0x8028; value = 0x77 ∷ 0x6F ∷ 0xD8 ∷ 0x0A ∷ []; pad = [] };
  last = refl;
  kind = refl;
}

pub other_ends : Ends rfc5389 other
unfolding Whole answer_said reading_said reading_of outcome scanned scan value_faults print_faults print_fault fault entry_fault look rule_fault printed fingerprint_at crc32_of bytes_from byte_step bit_steps bit_step with_length same header_fault front_fault be16 cookie_at parse
other_ends = record {
  bytes = tested other refl;
  whole = refl;
  before = take 1 (attributes other);
  print = record { kind = 0x8028; value = 0x77 ∷ 0x6F ∷ 0xD8 ∷ 0x0A ∷ []; pad = [] };
  last = refl;
  kind = refl;
}

-- they are equally long, agree outside the five places from 24 on, and are not equal
pub five_long : length one ≡ length other
five_long = refl

pub five_front : take 24 one ≡ take 24 other
five_front = refl

pub five_back : drop 29 one ≡ drop 29 other
five_back = refl

pub five_differ : one ≡ other → ⊥
five_differ e = omega (arith, ap (λ (l : List ℕ). get_or l 24 0) e)
