-- The key's blocks, and the two hashes behind them.
use Rattle.std.proofs.Common.{◌≡◌, refl, sym, ap, ◌∙◌, List, [], ◌∷◌, ◌++◌, map, append-nil, ℕ, zero, suc, ◌+◌, ◌≤◌, ◌<◌, add-one, not-suc-le-zero, le_of_suc-le-suc, arith, le-leb, length, take, drop, get_or, set, length-append, drop_of_length-le, take_all, bit_xor}
use Rattle.std.proofs.lemmas.Bool.{lt-leb}
use Rattle.std.proofs.lemmas.List.{length-map}
use Rattle.sha1_digest.specs.declared.compression.State.{State}
use Rattle.sha1_digest.specs.Compression.{start, compress, run}
use Rattle.sha1_digest.specs.CompressionLaws.{run_one}
use Rattle.hash_block.specs.Block.{block_of}
use Rattle.hash_block.specs.BlockLaws.{length-block}
use Rattle.sha1_digest.specs.Finished.{finished}
use Rattle.sha1_digest.specs.FinishedLaws.{finished_block}
use Rattle.sha1_digest.specs.Sha1.{sha1}
use Rattle.hmac.specs.Hmac.{key_block, xored, hmac_of}

pub short_key : (k : List ℕ) {r : List ℕ} → length k ≤ 64 → r ≡ block_of k → r ≡ key_block k
unfolding key_block
short_key k h e = e ∙ rw (le-leb (length k) 64 h)

pub long_key : (k : List ℕ) {d r : List ℕ} → 64 < length k → d ≡ sha1 k → r ≡ block_of d → r ≡ key_block k
unfolding key_block
long_key k h e f = f ∙ rw (e, lt-leb (length k) 64 h)

-- the first i bytes of k are xored with x
pub record Xoring (k : List ℕ) (x : ℕ) (b : List ℕ) (i : ℕ) : Type 0 where
  pub some : i ≤ 64
  pub size : length k ≡ 64
  pub sofar : b ≡ map (λ y. bit_xor y x) (take i k) ++ drop i k

one_more : (f : ℕ → ℕ) (k : List ℕ) (i : ℕ) → i < length k
    → set (map f (take i k) ++ drop i k) i (f (get_or (map f (take i k) ++ drop i k) i 0)) ≡ map f (take (suc i) k) ++ drop (suc i) k
one_more f [] i h = absurd (not-suc-le-zero h)
one_more f (y ∷ k) zero h = refl
one_more f (y ∷ k) (suc i) h = ap {B = List ℕ} (λ r. f y ∷ r) (one_more f k i (le_of_suc-le-suc h))

pub xoring_turn : {k b : List ℕ} {x i : ℕ} → Xoring k x b i → i < 64 → Xoring k x (set b i (bit_xor (get_or b i 0) x)) (i + 1)
xoring_turn {k} {b} {x} {i} g h =
    record {
      some = omega arith;
      size = g.size;
      sofar = rw (add-one, g.sofar) (one_more (λ y. bit_xor y x) k i (omega (arith, g.size)));
    }

pub xoring_done : {k b : List ℕ} {x i : ℕ} → Xoring k x b i → 64 ≤ i → b ≡ xored k x
unfolding xored
xoring_done {k} {b} {x} {i} g h =
    let l : length k ≤ i = omega (arith, g.size) in
    g.sofar ∙ rw (take_all i k l, drop_of_length-le k l, append-nil)

length-xored : (k : List ℕ) (x : ℕ) → length (xored k x) ≡ length k
unfolding xored
length-xored k x = length-map k _

-- the key's block, taken in
pub keyed_by : (k : List ℕ) (x : ℕ) {b : List ℕ} {r : State} → length k ≡ 64 → b ≡ xored k x → r ≡ run b start → r ≡ compress (xored k x) start
keyed_by k x l e f = f ∙ ap (λ (b : List ℕ). run b start) e ∙ run_one (xored k x) start (length-xored k x ∙ l)

-- a hash that goes on behind the key's block
pub behind : (k : List ℕ) (x : ℕ) (m : List ℕ) {h : State} {r : List ℕ} → length k ≡ 64 → h ≡ compress (xored k x) start
    → r ≡ finished h (64 + length m) m → r ≡ sha1 (xored k x ++ m)
unfolding sha1
behind k x m {h} {r} l e f =
    let b : length (xored k x) ≡ 64 = length-xored k x ∙ l in
    let n : length (xored k x ++ m) ≡ 64 + length m = omega (arith, length-append (xored k x) m) in
    f ∙ ap (λ (g : State). finished g (64 + length m) m) e
    ∙ sym (ap (λ (j : ℕ). finished start j (xored k x ++ m)) n ∙ finished_block (xored k x) m (64 + length m) start b)

length-key : (k : List ℕ) → length (key_block k) ≡ 64
unfolding key_block
length-key k = length-block _

-- the outer hash over the inner one
pub both : (k m : List ℕ) {b i r : List ℕ} {h : State} → b ≡ key_block k → h ≡ compress (xored b 0x36) start
    → i ≡ finished h (64 + length m) m → r ≡ sha1 (xored b 0x5c ++ i) → r ≡ hmac_of k m
unfolding hmac_of
both k m {b} {i} {r} {h} eb eh ei er =
    let j : i ≡ sha1 (xored b 0x36 ++ m) = behind b 0x36 m (ap length eb ∙ length-key k) eh ei in
    er ∙ rw (j, eb)
