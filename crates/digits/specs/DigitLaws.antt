-- What a digit is, range by range.
use Rattle.std.specs.Prelude.{ℕ, ◌-◌, ◌<◌, ◌≤◌, ◌≡◌}
use Rattle.std.proofs.Common.{arith}
use borrow.Author.Tests.{lt-ltb, le-ltb}
use Rattle.digits.specs.Digit.{digit_of}

module _ {b : ℕ} where
  pub none_1 : b < 48 → 16 ≡ digit_of b
  unfolding digit_of
  none_1 h = simp (lt-ltb _ _ h)

  pub figure : 48 ≤ b → b < 58 → b - 48 ≡ digit_of b
  unfolding digit_of
  figure g h = simp (le-ltb _ _ g, lt-ltb _ _ h)

  pub none_2 : 58 ≤ b → b < 65 → 16 ≡ digit_of b
  unfolding digit_of
  none_2 g h = simp (le-ltb b 48 (omega arith), le-ltb _ _ g, lt-ltb _ _ h)

  pub upper : 65 ≤ b → b < 71 → b - 55 ≡ digit_of b
  unfolding digit_of
  upper g h = simp (le-ltb b 48 (omega arith), le-ltb b 58 (omega arith), le-ltb _ _ g, lt-ltb _ _ h)

  pub none_3 : 71 ≤ b → b < 97 → 16 ≡ digit_of b
  unfolding digit_of
  none_3 g h = simp (le-ltb b 48 (omega arith), le-ltb b 58 (omega arith), le-ltb b 65 (omega arith), le-ltb _ _ g, lt-ltb _ _ h)

  pub lower : 97 ≤ b → b < 103 → b - 87 ≡ digit_of b
  unfolding digit_of
  lower g h =
      simp
      (le-ltb b 48 (omega arith), le-ltb b 58 (omega arith), le-ltb b 65 (omega arith), le-ltb b 71 (omega arith), le-ltb _ _ g, lt-ltb _ _ h)

  pub none_4 : 103 ≤ b → 16 ≡ digit_of b
  unfolding digit_of
  none_4 g =
      simp
      (le-ltb b 48 (omega arith), le-ltb b 58 (omega arith), le-ltb b 65 (omega arith), le-ltb b 71 (omega arith), le-ltb b 97 (omega arith), le-ltb _ _ g)
