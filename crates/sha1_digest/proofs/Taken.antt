-- Whole blocks taken in one after the other.
use Rattle.std.proofs.Common.{◌≡◌, ℕ, ◌/◌, ◌<◌, ◌≤◌, List, length, take, drop, sym, ap, ◌∙◌, arith, take-append-drop, length-take-le}
use Rattle.sha1_digest.specs.declared.compression.State.{State}
use Rattle.sha1_digest.specs.Compression.{compress, blocks, run}
use Rattle.sha1_digest.specs.CompressionLaws.{run_block}

-- the hash value g has taken in what stands before t
pub taking_turn : (s t : List ℕ) (h g : State) {f : State} {b r : List ℕ} → run t g ≡ run s h → 64 ≤ length t → b ≡ take 64 t → r ≡ drop 64 t → f ≡ compress b g
    → run r f ≡ run s h
taking_turn s t h g {f} {b} {r} q k d n e =
    rw (n, e, d)
    (sym (ap (λ (l : List ℕ). run l g) (sym (take-append-drop 64 t)) ∙ run_block (take 64 t) (drop 64 t) g (length-take-le 64 t k)) ∙ q)

pub taking_done : (s t : List ℕ) (h g : State) → run t g ≡ run s h → length t < 64 → g ≡ run s h
unfolding run blocks
taking_done s t h g q k =
    let e : length t / 64 ≡ 0 = omega arith in
    sym (ap (λ (n : ℕ). blocks n t g) e) ∙ q
