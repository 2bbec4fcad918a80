-- What a block is, by the size of the bytes, for callers.
use Rattle.std.specs.Prelude.{◌≡◌, List, ◌++◌, ℕ, ◌+◌, ◌-◌, ◌≤◌, length, take, replicate}
use Rattle.std.proofs.Common.{ap, sym, ◌∙◌, arith, length-append, take_at, length-take-le}
use Rattle.std.proofs.lemmas.List.{length-replicate, replicate-append-replicate, take-append-le}
use Rattle.std.proofs.Math.Seq.{take-append-add}
use Rattle.hash_block.specs.Block.{block_of}

zeros_behind : (s : List ℕ) (m : ℕ) → length s ≤ m → take m (s ++ replicate m 0) ≡ s ++ replicate (m - length s) 0
zeros_behind s m h =
    let k = m - length s in
    let e : m ≡ length s + k = omega arith in
    let d : m ≡ k + length s = omega arith in
    let z : take {A = ℕ} k (replicate m 0) ≡ replicate k 0 =
    ap (λ (j : ℕ). take {A = ℕ} k (replicate j 0)) d
    ∙ ap (take k) (sym (replicate-append-replicate {A = ℕ} k (length s) 0))
    ∙ take_at (replicate {A = ℕ} k 0) (replicate (length s) 0) k (length-replicate k 0) in
    ap (λ (j : ℕ). take j (s ++ replicate m 0)) e ∙ take-append-add s (replicate m 0) k ∙ ap (λ (l : List ℕ). s ++ l) z

-- at most 64 bytes, and zeros behind them
pub block_short : (s : List ℕ) → length s ≤ 64 → block_of s ≡ s ++ replicate (64 - length s) 0
unfolding block_of
block_short s h = zeros_behind s 64 h

-- 64 bytes and more: the first 64
pub block_long : (s : List ℕ) → 64 ≤ length s → block_of s ≡ take 64 s
unfolding block_of
block_long s h = take-append-le 64 s (replicate 64 0) h

pub length-block : (s : List ℕ) → length (block_of s) ≡ 64
unfolding block_of
length-block s = length-take-le 64 (s ++ replicate 64 0) (omega (arith, length-append s (replicate {A = ℕ} 64 0)))
