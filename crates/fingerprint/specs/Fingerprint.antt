-- FINGERPRINT (RFC 5389 section 15.5; docs/SCOPE.md, "FINGERPRINT").
use Rattle.std.specs.Prelude.{ℕ, ◌+◌, ◌-◌, List, length, take, ltb}
use Rattle.std.specs.Int.Bits.{bit_xor}
use Rattle.base.specs.Choice.{pick}
use Rattle.big_endian.specs.Numbers.{with_length}
use Rattle.crc.specs.Crc.{crc32_of}

-- the sum over the bytes before p, with p - 20 + 8 in the length field
unfoldable pub fingerprint_at : List ℕ → ℕ → ℕ
fingerprint_at d p = bit_xor (crc32_of (with_length (take p d) (p - 20 + 8))) 0x5354554E

-- the same, and 0 at a place where no FINGERPRINT can start: in the header, behind the bytes, or too far for 16 bits of length
unfoldable pub printed : List ℕ → ℕ → ℕ
printed d p = pick (ltb p 20) 0 (pick (ltb (length d) p) 0 (pick (ltb 65535 (p - 20 + 8)) 0 (fingerprint_at d p)))
