-- CRC-32/ISO-HDLC of a list of bytes, as the catalogue of parametrised CRC algorithms has it: width=32 poly=0x04c11db7
-- init=0xffffffff refin=true refout=true xorout=0xffffffff check=0xcbf43926. Reflected, the polynomial is 0xEDB88320.
use Rattle.std.specs.Prelude.{ℕ, zero, suc, ◌*◌, ◌/◌, ◌%◌, List, [], ◌∷◌}
use Rattle.std.specs.Int.Bits.{bit_xor}

-- one bit: the register goes down by a place, and the polynomial is added where the bit that fell out was set
unfoldable pub bit_step : ℕ → ℕ
bit_step s = bit_xor (s % 2 * 0xEDB88320) (s / 2)

unfoldable pub bit_steps : ℕ → ℕ → ℕ
bit_steps zero s = s
bit_steps (suc n) s = bit_steps n (bit_step s)

-- a byte goes into the low end of the register, and out through eight bit steps
unfoldable pub byte_step : ℕ → ℕ → ℕ
byte_step s b = bit_steps 8 (bit_xor s b)

-- the bytes, from the register s on
unfoldable pub bytes_from : ℕ → List ℕ → ℕ
bytes_from s [] = s
bytes_from s (b ∷ bs) = bytes_from (byte_step s b) bs

-- what a register says in the end
abbrev pub finished : ℕ → ℕ
finished s = bit_xor s 0xFFFF_FFFF

unfoldable pub crc32_of : List ℕ → ℕ
crc32_of bs = finished (bytes_from 0xFFFF_FFFF bs)
