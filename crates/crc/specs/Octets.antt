-- Many steps at once: what the laws of the register, and the code, say beside the definition.
use Rattle.std.specs.Prelude.{ℕ, zero, suc, ◌*◌, ◌/◌, ◌%◌, ◌^◌, List, [], ◌∷◌}
use Rattle.std.specs.Int.Bits.{bit_xor}
use Rattle.crc.specs.Crc.{bit_step, bit_steps}

-- n bytes that are nought: the register times a power
unfoldable pub octets : ℕ → ℕ → ℕ
octets n s = bit_steps (8 * n) s

-- bytes as one number, the first lowest
unfoldable pub word : List ℕ → ℕ
word [] = 0
word (b ∷ bs) = bit_xor b (word bs * 2 ^ 8)

-- a product: k digits of t, the highest of 32 first, each of which adds what m has come to, a step further on each time
unfoldable pub times : ℕ → ℕ → ℕ → ℕ
times zero t m = 0
times (suc k) t m = bit_xor (t / 2 ^ 31 * m) (times k (t % 2 ^ 31 * 2) (bit_step m))
