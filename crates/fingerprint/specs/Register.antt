-- The register over the front of a datagram, with any number in the length field, and what another number there changes.
use Rattle.std.specs.Prelude.{ℕ, ◌+◌, ◌*◌, ◌/◌, ◌%◌, ◌^◌, List, take}
use Rattle.big_endian.specs.Numbers.{with_length}
use Rattle.crc.specs.Crc.{bytes_from}

-- over the bytes before p, with n in the length field
unfoldable pub register : List ℕ → ℕ → ℕ → ℕ
register d p n = bytes_from 0xFFFF_FFFF (with_length (take p d) n)

-- the length field as what it adds to a register, seen from the front of the datagram, two bytes before it
unfoldable pub field : ℕ → ℕ
field n = (n % 256 * 256 + n / 256) * 2 ^ 16
