-- MESSAGE-INTEGRITY (RFC 5389 section 15.4; docs/SCOPE.md, "MESSAGE-INTEGRITY", "Checking integrity").
use Rattle.std.specs.Prelude.{ℕ, ◌+◌, ◌-◌, List, true, ◌≡◌, take}
use Rattle.base.specs.Choice.{pick}
use Rattle.attribute.specs.Attribute.{Attr}
use Rattle.registry.specs.declared.Row.{Row}
use Rattle.read_message.specs.Reading.{reading_said, reading_of}
use Rattle.read_first.specs.First.{Place, none, starts, first_in, is_whole}
use Rattle.base.specs.Same.{same}
use Rattle.big_endian.specs.Numbers.{with_length}
use Rattle.hmac.specs.Hmac.{hmac_of}

-- the digest of the bytes before p, with p - 20 + 24 in the length field
unfoldable pub integrity_at : List ℕ → List ℕ → ℕ → List ℕ
integrity_at key d p = hmac_of key (with_length (take p d) (p - 20 + 24))

-- 32 where the value v of a MESSAGE-INTEGRITY at p differs
unfoldable pub compared_at : List ℕ → List ℕ → ℕ → List ℕ → ℕ
compared_at d key p v = pick (same (integrity_at key d p) v) 0 32

-- 31 where there is none
unfoldable pub compared : List ℕ → List ℕ → Place → ℕ
compared d key none = 31
compared d key (starts p a) = compared_at d key p a.value

-- the reader's number where the datagram is not whole
unfoldable pub integrity_fault : List Row → List ℕ → List ℕ → ℕ
integrity_fault rows d key = pick (is_whole rows d) (compared d key (first_in 0x0008 d)) (reading_said (reading_of rows d)).number

-- what 0 says: the datagram is whole, and the value of its first MESSAGE-INTEGRITY is the digest of the bytes before it
pub record Signed (rows : List Row) (d key : List ℕ) : Type 0 where
  pub whole : is_whole rows d ≡ true
  pub place : ℕ
  pub attr : Attr
  pub there : first_in 0x0008 d ≡ starts place attr
  pub value : integrity_at key d place ≡ attr.value
