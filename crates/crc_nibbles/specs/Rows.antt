-- Tables of half bytes, row after row in one list: entry v of row r is what 4 * (r + 1) bit steps make of v.
use Rattle.std.specs.Prelude.{ℕ, ◌+◌, ◌*◌, ◌/◌, ◌%◌, ◌<◌, ◌≡◌, List, [], ◌∷◌, length, get_or, ltb}
use Rattle.std.specs.Int.Bits.{bit_xor}
use Rattle.base.specs.Choice.{pick}
use Rattle.crc.specs.Crc.{bit_steps}

pub record Rows (t : List ℕ) : Type 0 where
  pub entry : (k : ℕ) → k < length t → get_or t k 0 ≡ bit_steps (4 * (k / 16 + 1)) (k % 16)

-- what its own steps and those of the k bytes behind it make of the low byte of x, by its halves
unfoldable pub halves : List ℕ → ℕ → ℕ → ℕ
halves t k x = bit_xor (get_or t (k * 32 + 16 + x % 16) 0) (get_or t (k * 32 + x / 16 % 16) 0)

-- what the steps of four bytes make of x, byte by byte: by the halves
unfoldable pub by_halves : List ℕ → ℕ → ℕ
by_halves t x = bit_xor (bit_xor (halves t 3 x) (halves t 2 (x / 256))) (bit_xor (halves t 1 (x / 65536)) (halves t 0 (x / 16777216)))

-- the same by the table t: nought where it has fewer than eight rows
unfoldable pub four_halves : List ℕ → ℕ → ℕ
four_halves t x = pick (ltb (length t) 128) 0 (by_halves t x)

-- the bytes, from the register c on: the low byte of the register with each goes by its halves, and the others move down
unfoldable pub byte_by_byte : List ℕ → ℕ → List ℕ → ℕ
byte_by_byte t c [] = c
byte_by_byte t c (b ∷ bs) = byte_by_byte t (bit_xor (halves t 0 (bit_xor c b)) (bit_xor c b / 256)) bs

-- the same by the table t: c itself where it has fewer than two rows
unfoldable pub bytes_halves : List ℕ → ℕ → List ℕ → ℕ
bytes_halves t c bs = pick (ltb (length t) 32) c (byte_by_byte t c bs)
