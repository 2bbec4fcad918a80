-- Laws of the hash value that its callers cite: a block in front of others, and whole blocks in front of what follows them.
use Rattle.std.specs.Prelude.{◌≡◌, ℕ, zero, suc, ◌+◌, ◌*◌, ◌/◌, ◌≤◌, List, [], ◌++◌, length, take, drop, refl}
use Rattle.std.proofs.Common.{ap, sym, ◌∙◌, append_assoc, append-nil, arith, length-append, length-drop, take-append-drop, take_at, drop_at, drop-drop, length-take-le}
use Rattle.sha1_digest.specs.declared.compression.State.{State}
use Rattle.sha1_digest.specs.Compression.{compress, blocks, run}

blocks_suc : (n : ℕ) (p : List ℕ) (h : State) → blocks (suc n) p h ≡ blocks n (drop 64 p) (compress (take 64 p) h)
unfolding blocks
blocks_suc n p h = refl

-- a whole block in front of others
pub run_block : (b p : List ℕ) (h : State) → length b ≡ 64 → run (b ++ p) h ≡ run p (compress b h)
unfolding run
run_block b p h e =
    let d : length (b ++ p) / 64 ≡ suc (length p / 64) = omega (arith, length-append b p) in
    rw (d, blocks_suc, drop_at b p 64 e, take_at b p 64 e)

-- and alone
pub run_one : (b : List ℕ) (h : State) → length b ≡ 64 → run b h ≡ compress b h
unfolding run blocks
run_one b h e = ap (λ (r : List ℕ). run r h) (sym (append-nil b)) ∙ run_block b [] h e

-- a whole block taken in before others
pub run_behind : (b p : List ℕ) (h : State) → length b ≡ 64 → run (b ++ p) h ≡ run p (run b h)
run_behind b p h e = run_block b p h e ∙ sym (ap (run p) (run_one b h e))

blocks_on : (k : ℕ) (s p : List ℕ) (h : State) → k * 64 ≤ length s → run (s ++ p) h ≡ run (drop (k * 64) s ++ p) (blocks k s h)
unfolding blocks
blocks_on zero s p h l = refl
blocks_on (suc k) s p h l =
    let d : suc k * 64 ≡ 64 + k * 64 = omega arith in
    let t : length (take 64 s) ≡ 64 = length-take-le 64 s (omega arith) in
    let q : run (s ++ p) h ≡ run (drop 64 s ++ p) (compress (take 64 s) h) =
    ap (λ (r : List ℕ). run (r ++ p) h) (sym (take-append-drop 64 s))
    ∙ ap (λ (r : List ℕ). run r h) (append_assoc (take 64 s) (drop 64 s) p)
    ∙ run_block (take 64 s) (drop 64 s ++ p) h t in
    q ∙ blocks_on k (drop 64 s) p (compress (take 64 s) h) (omega (arith, length-drop 64 s))
    ∙ ap (λ (r : List ℕ). run (r ++ p) (blocks k (drop 64 s) (compress (take 64 s) h))) (drop-drop (k * 64) 64 s ∙ ap (λ (n : ℕ). drop n s) (sym d))

-- the whole blocks of s in front of what is left of it and what follows
pub run_on : (s p : List ℕ) (h : State) → run (s ++ p) h ≡ run (drop (length s / 64 * 64) s ++ p) (run s h)
unfolding run
run_on s p h = blocks_on (length s / 64) s p h (omega arith)
