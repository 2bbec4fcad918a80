-- The last blocks of a message: what is left of it, the padding, the count.
use Rattle.std.proofs.Common.{◌≡◌, ℕ, suc, ◌+◌, ◌-◌, ◌*◌, ◌/◌, ◌%◌, ◌^◌, ◌<◌, ◌≤◌, List, [], ◌∷◌, ◌++◌, length, take, drop, set, replicate, sym, refl, ap, ◌∙◌, append_assoc, append-nil, arith, length-append, length-drop, take_at, w64}
use Rattle.std.specs.Int.{to_be_bytes}
use Rattle.std.proofs.lemmas.List.{drop_all, length-replicate, replicate-append-replicate}
use borrow.Rule.Slice.PartMut.{put_mid}
use Rattle.std.proofs.Math.Seq.{set-append_seam}
use Rattle.sha1_digest.specs.declared.compression.State.{State}
use Rattle.sha1_digest.specs.Compression.{run}
use Rattle.sha1_digest.specs.CompressionLaws.{run_behind, run_on}
use Rattle.sha1_digest.specs.Finished.{count_of, padding, digest, finished}
use Rattle.hash_block.specs.Block.{block_of}
use Rattle.hash_block.specs.BlockLaws.{block_short}

-- the count stored at a block's end
pub counted : (b : List ℕ) (n : ℕ) {y : List ℕ} → length b ≡ 64 → y ≡ to_be_bytes w64 (n * 8 % 2 ^ 64) → put_mid 56 8 b y ≡ take 56 b ++ count_of n
unfolding count_of
counted b n {y} l e =
    let k = n * 8 % 2 ^ 64 in
    let over : drop 8 (drop 56 b) ≡ [] = drop_all 8 (drop 56 b) (omega (arith, length-drop 56 b)) in
    let d₇ : k / 72057594037927936 ≡ k / 4294967296 / 16777216 = omega arith in
    let d₆ : k / 281474976710656 ≡ k / 4294967296 / 65536 = omega arith in
    let d₅ : k / 1099511627776 ≡ k / 4294967296 / 256 = omega arith in
    rw (over, append-nil y, e, d₇, d₆, d₅) refl

-- what is left of a message of n bytes, with the padding's first byte behind it, fits a block
module _ (s : List ℕ) (n : ℕ) (h : State) (e : length s ≡ n % 64) where
  marked : set (block_of s) (length s) 128 ≡ s ++ 128 ∷ replicate (63 - length s) 0
  marked =
      let d : 64 - length s ≡ suc (63 - length s) = omega arith in
      rw (block_short s (omega arith), d) (set-append_seam s 0 (replicate (63 - length s) 0) 128)

  -- the count fits in behind it
  pub last_one : {b c : List ℕ} {r : State} → length s < 56 → b ≡ block_of s → c ≡ take 56 (set b (length s) 128) ++ count_of n → r ≡ run c h
      → r ≡ run (s ++ padding n) h
  unfolding padding
  last_one {b} {c} {r} k eb ec er =
      let z : (119 - n % 64) % 64 ≡ 55 - length s = omega arith in
      let d : 63 - length s ≡ (55 - length s) + 8 = omega arith in
      let a = s ++ 128 ∷ replicate (55 - length s) 0 in
      let head : take 56 (s ++ 128 ∷ replicate (63 - length s) 0) ≡ a =
      rw (d, ← replicate-append-replicate, ← append_assoc s (128 ∷ replicate (55 - length s) 0) (replicate 8 0))
      (take_at a (replicate 8 0) 56 (simp (length-append, length-replicate) (omega arith))) in
      let whole : s ++ padding n ≡ a ++ count_of n = rw z (sym (append_assoc s (128 ∷ replicate (55 - length s) 0) (count_of n))) in
      let full : c ≡ a ++ count_of n = ec ∙ ap (λ (l : List ℕ). take 56 (set l (length s) 128) ++ count_of n) eb ∙ ap (λ (l : List ℕ). l ++ count_of n) (ap (take 56) marked ∙ head) in
      er ∙ ap (λ (l : List ℕ). run l h) (full ∙ sym whole)

  -- or it stands in a block of its own
  pub last_two : {b c : List ℕ} {g r : State} → 56 ≤ length s → b ≡ block_of s → g ≡ run (set b (length s) 128) h
      → c ≡ take 56 (replicate 64 0) ++ count_of n → r ≡ run c g → r ≡ run (s ++ padding n) h
  unfolding padding
  last_two {b} {c} {g} {r} k eb eg ec er =
      let z : (119 - n % 64) % 64 ≡ (63 - length s) + 56 = omega arith in
      let a = s ++ 128 ∷ replicate (63 - length s) 0 in
      let q = replicate {A = ℕ} 56 0 ++ count_of n in
      let zeros : replicate ((119 - n % 64) % 64) 0 ++ count_of n ≡ replicate (63 - length s) 0 ++ q =
      rw (z, ← replicate-append-replicate {A = ℕ} (63 - length s) 56 0) (append_assoc (replicate {A = ℕ} (63 - length s) 0) (replicate 56 0) (count_of n)) in
      let whole : s ++ padding n ≡ a ++ q = ap (λ (l : List ℕ). s ++ 128 ∷ l) zeros ∙ sym (append_assoc s (128 ∷ replicate (63 - length s) 0) q) in
      let first : g ≡ run a h = eg ∙ ap (λ (l : List ℕ). run (set l (length s) 128) h) eb ∙ ap (λ (l : List ℕ). run l h) marked in
      er ∙ ap (λ (l : List ℕ). run l g) ec ∙ ap (run q) first
      ∙ sym (ap (λ (l : List ℕ). run l h) whole ∙ run_behind a q h (simp (length-append, length-replicate) (omega arith)))

-- the whole blocks, and then the last
pub ran : (s : List ℕ) (n : ℕ) (h : State) {g r : State} {t : List ℕ} → g ≡ run s h → t ≡ drop (length s / 64 * 64) s → r ≡ run (t ++ padding n) g
    → r ≡ run (s ++ padding n) h
ran s n h e d f = f ∙ rw (d, e) (sym (run_on s (padding n) h))

-- the digest
pub digested : (h : State) (n : ℕ) (s : List ℕ) {g : State} {r : List ℕ} → g ≡ run (s ++ padding n) h → r ≡ digest g → r ≡ finished h n s
unfolding finished
digested h n s e f = f ∙ ap digest e
