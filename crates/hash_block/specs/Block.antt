-- A block of 64 bytes.
use Rattle.std.specs.Prelude.{ℕ, List, ◌++◌, take, replicate}

-- the first bytes of s as one block, with zeros behind them where they are fewer
unfoldable pub block_of : List ℕ → List ℕ
block_of s = take 64 (s ++ replicate 64 0)
