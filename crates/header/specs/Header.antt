-- The checks of a header, in order, and what it says (RFC 5389 section 6; docs/SCOPE.md, "Reading": numbers 1 to 4).
use Rattle.std.specs.Prelude.{ℕ, ◌+◌, List, ◌∷◌, length, take, drop, ltb, leb, eqb, Result, Ok, Err}
use Rattle.base.specs.Choice.{pick}
use Rattle.base.specs.Said.{Said}
use Rattle.big_endian.specs.Numbers.{be16}
use Rattle.cookie.specs.Cookie.{cookie_at}
use Rattle.wire.specs.Refusal.{by, result_said}
use Rattle.wire.specs.TypeNumber.{class_of, method_of, class_number, class_numbered}
use Rattle.wire.specs.declared.refusal.Refusal.{Refusal}
use Rattle.header.specs.declared.Header.{Header}

-- 1: fewer than 20 bytes; 2: a top bit of the type is set; 3: the cookie differs; 0: none of these
unfoldable pub front_fault : List ℕ → ℕ
front_fault d = pick (ltb (length d) 20) 1 (pick (leb 16384 (be16 d 0)) 2 (pick (cookie_at d 4) 0 3))

-- then 4: the size is not 20 and the body length
unfoldable pub header_fault : List ℕ → ℕ
header_fault d = pick (eqb (front_fault d) 0) (pick (eqb (length d) (20 + be16 d 2)) 0 4) (front_fault d)

unfoldable pub id_of : List ℕ → List ℕ
id_of d = take 12 (drop 8 d)

unfoldable pub told : List ℕ → Header
told d = record {
  class = class_numbered (class_of (be16 d 0));
  method = record { code = method_of (be16 d 0) };
  body = be16 d 2;
  id = record { bytes = id_of d };
}

-- what an answer says: class, method, body length and the bytes of the ID, or refused by a number
unfoldable pub header_said : Result Header Refusal → Said
header_said = result_said (λ (h : Header). class_number h.class ∷ h.method.code ∷ h.body ∷ h.id.bytes)

unfoldable pub answer : ℕ → List ℕ → Result Header Refusal
answer n d = pick (eqb n 0) (Ok (told d)) (Err (by n))

-- the header at the front of a buffer, and that of a datagram
unfoldable pub front_of : List ℕ → Result Header Refusal
front_of d = answer (front_fault d) d

unfoldable pub header_of : List ℕ → Result Header Refusal
header_of d = answer (header_fault d) d
