-- A product on its way, digit by digit.
use Rattle.std.specs.Prelude.{ℕ, ◌+◌, ◌≡◌}
use Rattle.std.specs.Int.Bits.{bit_xor}
use Rattle.crc.specs.Octets.{times}
use Rattle.crc.specs.declared.Factors.{Factors}

-- what k digits that are left come to
abbrev pub comes_to : ℕ → Factors → ℕ
comes_to k s = bit_xor s.sum (times k s.t s.m)

-- r is s with n digits taken: what comes of both is the same
pub record Taken (n : ℕ) (s r : Factors) : Type 0 where
  pub same : (k : ℕ) → comes_to k r ≡ comes_to (n + k) s
