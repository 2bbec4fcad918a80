-- Zeros whose front is overwritten with the first bytes of s.
use Rattle.std.proofs.Common.{◌≡◌, ℕ, List, ◌++◌, length, take, drop, replicate, min, inl, inr, sym, ◌∙◌, arith}
use Rattle.std.proofs.lemmas.Bool.{cases_lt}
use Rattle.std.proofs.lemmas.List.{drop-replicate, take_all, append-nil}
use Rattle.hash_block.specs.Block.{block_of}
use Rattle.hash_block.specs.BlockLaws.{block_short, block_long}

pub filled : (s b : List ℕ) (n : ℕ) → n ≡ min (length s) 64 → b ≡ take n s → b ++ drop n (replicate 64 0) ≡ block_of s
filled s b n e d = elim (cases_lt (length s) 64) [
  | inl h ↦
      let p : n ≡ length s = omega (arith, e) in
      rw (d, drop-replicate {X = ℕ} n 64 0, p, take_all (length s) s (omega arith)) (sym (block_short s (omega arith)))
  | inr h ↦
      let p : n ≡ 64 = omega (arith, e) in
      rw (d, drop-replicate {X = ℕ} n 64 0, p) (append-nil (take 64 s) ∙ sym (block_long s h))
]
