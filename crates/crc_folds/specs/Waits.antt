-- What waits to be added to the next five words of eight bytes, as one number: a register of 320 digits.
use Rattle.std.specs.Prelude.{ℕ, ◌-◌, ◌*◌, ◌/◌, ◌%◌, ◌^◌, ◌≤◌, ◌<◌, ◌≡◌, ◌⊎◌, List, length, drop}
use Rattle.std.specs.Int.Bits.{bit_xor}
use Rattle.crc.specs.Crc.{bytes_from}
use Rattle.crc_folds.specs.declared.Waiting.{Waiting}

-- the word x, and y in the words above it
unfoldable pub over : ℕ → ℕ → ℕ
over x y = bit_xor x (y * 2 ^ 64)

unfoldable pub register : Waiting → ℕ
register f = over f.a (over f.b (over f.c (over f.d f.e)))

-- places to add a word at, counted from the next word's lowest digit
pub data Taps : Type 0 where
  tap : ℕ → Taps
  both : Taps → Taps → Taps

unfoldable pub spread : Taps → ℕ → ℕ
spread (tap j) x = x * 2 ^ j
spread (both s t) x = bit_xor (spread s x) (spread t x)

-- 145, 183, 211 and 300 digits further on
unfoldable pub far : Taps
far = both (both (tap 81) (tap 119)) (both (tap 147) (tap 236))

-- 80, 87, 105, 111, 112, 119 and 120 digits further on, and 64: in the next two words
abbrev pub seven : Taps
seven = both (both (both (tap 56) (tap 55)) (both (tap 48) (tap 47))) (both (both (tap 41) (tap 23)) (tap 16))

unfoldable pub near : Taps
near = both (tap 0) seven

-- n without its lowest word, which is added at the taps
unfoldable pub folded : Taps → ℕ → ℕ
folded t n = bit_xor (n / 2 ^ 64) (spread t (n % 2 ^ 64))

-- n is a register of 32 digits, or has no more words than m bytes
unfoldable pub Fits : ℕ → ℕ → Type 0
Fits n m = (n < 2 ^ 32) ⊎ (n < 2 ^ (64 * (m / 8)))

-- n waits before place i of s: the bytes from there on come to v, and it never has more words than are left
pub record Waits (v : ℕ) (s : List ℕ) (n i : ℕ) : Type 0 where
  pub some : i ≤ length s
  pub left : bytes_from n (drop i s) ≡ v
  pub fits : Fits n (length s - i)
