-- Rows of whole bytes, row after row in one list, and the steps by a table of either kind.
use Rattle.std.specs.Prelude.{ℕ, zero, suc, ◌+◌, ◌*◌, ◌/◌, ◌%◌, ◌^◌, ◌≤◌, ◌<◌, ◌≡◌, List, [], ◌∷◌, ◌++◌, length, get_or, ltb}
use Rattle.std.specs.Int.Bits.{bit_xor}
use Rattle.base.specs.Choice.{pick}
use Rattle.crc.specs.Octets.{octets}
use Rattle.crc_nibbles.specs.Rows.{by_halves}

-- the first n entries of rows of whole bytes: entry b of row r is what the steps of r + 1 bytes make of b
unfoldable pub byte_rows : ℕ → List ℕ
byte_rows zero = []
byte_rows (suc k) = byte_rows k ++ (octets (k / 256 + 1) (k % 256) ∷ [])

-- by four such rows, from row r on: what the steps of r + 4 bytes make of x
unfoldable pub by_bytes : List ℕ → ℕ → ℕ → ℕ
by_bytes t r x =
    bit_xor (bit_xor (get_or t (r * 256 + 768 + x % 256) 0) (get_or t (r * 256 + 512 + x / 256 % 256) 0))
    (bit_xor (get_or t (r * 256 + 256 + x / 65536 % 256) 0) (get_or t (r * 256 + x / 16777216 % 256) 0))

-- the steps of four bytes by the table t: nought where it has fewer than eight rows of halves, by bytes where it has eight of those
unfoldable pub four_by : List ℕ → ℕ → ℕ
four_by t x = pick (ltb (length t) 128) 0 (pick (ltb (length t) 2048) (by_halves t x) (by_bytes t 0 x))

-- the steps of eight bytes by it: nought where it has fewer than eight rows of bytes
unfoldable pub eight_by : List ℕ → ℕ → ℕ
eight_by t x = pick (ltb (length t) 2048) 0 (by_bytes t 4 x)

-- t is a table for these steps, as far as it goes
pub record Steps (t : List ℕ) : Type 0 where
  pub four : (x : ℕ) → x < 2 ^ 32 → 128 ≤ length t → four_by t x ≡ octets 4 x
  pub eight : (x : ℕ) → x < 2 ^ 32 → 2048 ≤ length t → eight_by t x ≡ octets 8 x
