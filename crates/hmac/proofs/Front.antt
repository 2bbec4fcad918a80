-- A message with another number in its length field, hashed with only its first block copied.
use Rattle.std.proofs.Common.{◌≡◌, refl, sym, ap, ◌∙◌, List, [], ◌∷◌, ◌++◌, ℕ, zero, suc, ◌+◌, ◌-◌, ◌/◌, ◌%◌, ◌^◌, ◌≤◌, ◌<◌, arith, length, take, drop, set, replicate, length-drop, take-append-drop, get_or, take_at, take_all, drop-set-lt, w16}
use Rattle.std.specs.Int.{to_be_bytes}
use Rattle.sha1_digest.specs.declared.compression.State.{State}
use Rattle.sha1_digest.specs.Compression.{start, compress, run}
use Rattle.sha1_digest.specs.CompressionLaws.{run_one}
use Rattle.hash_block.specs.Block.{block_of}
use Rattle.hash_block.specs.BlockLaws.{block_short, block_long, length-block}
use Rattle.sha1_digest.specs.Finished.{finished}
use Rattle.sha1_digest.specs.FinishedLaws.{finished_block}
use Rattle.sha1_digest.specs.Sha1.{sha1}
use Rattle.big_endian.specs.Numbers.{with_length}
use Rattle.big_endian.specs.NumbersLaws.{length-with_length}
use Rattle.hmac.specs.Hmac.{key_block, xored, hmac_of}
use Rattle.hmac.proofs.Keys.{both}

pub relabelled : (m : List ℕ) (n : ℕ) {b y : List ℕ} → n < 2 ^ 16 → b ≡ block_of m → y ≡ to_be_bytes w16 n
    → set (set b 2 (get_or y 0 0)) 3 (get_or y 1 0) ≡ with_length (block_of m) n
unfolding with_length
relabelled m n {b} {y} h e d = let k : n / 256 % 256 ≡ n / 256 = omega arith in rw (e, d, k) refl

-- a stored element and a front go in either order
take-set : (k : ℕ) (l : List ℕ) (i x : ℕ) → take k (set l i x) ≡ set (take k l) i x
take-set zero l i x = refl
take-set (suc k) [] i x = refl
take-set (suc k) (y ∷ l) zero x = refl
take-set (suc k) (y ∷ l) (suc i) x = ap {B = List ℕ} (λ r. y ∷ r) (take-set k l i x)

take-with : (k : ℕ) (m : List ℕ) (n : ℕ) → take k (with_length m n) ≡ with_length (take k m) n
unfolding with_length
take-with k m n = take-set k (set m 2 (n / 256)) 3 (n % 256) ∙ ap (λ (l : List ℕ). set l 3 (n % 256)) (take-set k m 2 (n / 256))

drop-with : (m : List ℕ) (n : ℕ) → drop 64 (with_length m n) ≡ drop 64 m
unfolding with_length
drop-with m n = drop-set-lt 64 (set m 2 (n / 256)) 3 (n % 256) (omega arith) ∙ drop-set-lt 64 m 2 (n / 256) (omega arith)

-- a message of less than a block
pub short : (m : List ℕ) (n : ℕ) (h : State) {b r : List ℕ} → length m < 64 → b ≡ with_length (block_of m) n
    → r ≡ finished h (64 + length (take (length m) b)) (take (length m) b) → r ≡ finished h (64 + length m) (with_length m n)
short m n h {b} {r} k e f =
    let z = replicate {A = ℕ} (64 - length m) 0 in
    let t : take (length m) b ≡ with_length m n =
    ap (take (length m)) e ∙ take-with (length m) (block_of m) n
    ∙ ap (λ (l : List ℕ). with_length l n) (ap (take (length m)) (block_short m (omega arith)) ∙ take_at m z (length m) refl) in
    f ∙ rw (t, length-with_length)

-- a message of a block and more
pub long : (m : List ℕ) (n : ℕ) (h : State) {b r : List ℕ} {g : State} → 64 ≤ length m → b ≡ with_length (block_of m) n → g ≡ run b h
    → r ≡ finished g (128 + length (take (length m - 64) (drop 64 m))) (take (length m - 64) (drop 64 m))
    → r ≡ finished h (64 + length m) (with_length m n)
long m n h {b} {r} {g} k eb eg er =
    let d : take (length m - 64) (drop 64 m) ≡ drop 64 m = take_all (length m - 64) (drop 64 m) (omega (arith, length-drop 64 m)) in
    let c : 128 + length (drop 64 m) ≡ 64 + length m = omega (arith, length-drop 64 m) in
    let first : take 64 (with_length m n) ≡ b = take-with 64 m n ∙ ap (λ (l : List ℕ). with_length l n) (sym (block_long m k)) ∙ sym eb in
    let l : length b ≡ 64 = ap length eb ∙ length-with_length (block_of m) n ∙ length-block m in
    let whole : with_length m n ≡ b ++ drop 64 m = sym (take-append-drop 64 (with_length m n)) ∙ rw (first, drop-with m n) in
    er ∙ rw (d, c, eg ∙ run_one b h l, whole) (sym (finished_block b (drop 64 m) (64 + length m) h l))

-- the whole code of a message with another length field
signed : (k m : List ℕ) (n : ℕ) {b i r : List ℕ} {h : State} → b ≡ key_block k → h ≡ compress (xored b 0x36) start
    → i ≡ finished h (64 + length m) (with_length m n) → r ≡ sha1 (xored b 0x5c ++ i) → r ≡ hmac_of k (with_length m n)
signed k m n {b} {i} {r} {h} eb eh ei er =
    both k (with_length m n) eb eh (ei ∙ ap (λ (j : ℕ). finished h (64 + j) (with_length m n)) (sym (length-with_length m n))) er

-- a part of the datagram, and all of it
pub part : (k d : List ℕ) (p n : ℕ) {b i r : List ℕ} {h : State} → b ≡ key_block k → h ≡ compress (xored b 0x36) start
    → i ≡ finished h (64 + length (take p d)) (with_length (take p d) n) → r ≡ sha1 (xored b 0x5c ++ i)
    → r ≡ hmac_of k (with_length (take p d) n)
part k d p n eb eh ei er = signed k (take p d) n eb eh ei er

pub all : (k d : List ℕ) (p n : ℕ) {b i r : List ℕ} {h : State} → length d < p → b ≡ key_block k → h ≡ compress (xored b 0x36) start
    → i ≡ finished h (64 + length d) (with_length d n) → r ≡ sha1 (xored b 0x5c ++ i) → r ≡ hmac_of k (with_length (take p d) n)
all k d p n l eb eh ei er = signed k d n eb eh ei er ∙ ap (λ (m : List ℕ). hmac_of k (with_length m n)) (sym (take_all p d (omega arith)))
