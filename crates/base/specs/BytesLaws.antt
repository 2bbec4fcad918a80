-- Parts of lists of bytes are lists of bytes.
use Rattle.std.specs.Prelude.{ℕ, zero, suc, ◌<◌, Bool, true, false, ◌&&◌, List, [], ◌∷◌, ◌++◌, ◌≡◌, refl, get_or, take, drop, ltb}
use Rattle.std.proofs.Common.{arith, ltb-true}
use Rattle.base.specs.Bytes.{Bytes}

-- what a slice's rule gives
pub bytes : (s : List ℕ) → ((i : ℕ) → get_or s i 0 < 256) → Bytes s
bytes [] h = tt
bytes (b ∷ s) h = (h 0, bytes s (λ i. h (suc i)))

pub take-bytes : (n : ℕ) (s : List ℕ) → Bytes s → Bytes (take n s)
take-bytes zero s h = tt
take-bytes (suc n) [] h = tt
take-bytes (suc n) (b ∷ s) h = (h.0, take-bytes n s h.1)

pub drop-bytes : (n : ℕ) (s : List ℕ) → Bytes s → Bytes (drop n s)
drop-bytes zero s h = h
drop-bytes (suc n) [] h = tt
drop-bytes (suc n) (b ∷ s) h = drop-bytes n s h.1

pub append_bytes : (s t : List ℕ) → Bytes s → Bytes t → Bytes (s ++ t)
append_bytes [] t h k = k
append_bytes (b ∷ s) t h k = (h.0, append_bytes s t h.1 k)

-- an element is a byte, and what lies behind the end counts as nought
pub byte_at : (s : List ℕ) (i : ℕ) → Bytes s → get_or s i 0 < 256
byte_at [] i h = omega arith
byte_at (b ∷ s) zero h = h.0
byte_at (b ∷ s) (suc i) h = byte_at s i h.1

-- the same by a test, for lists that are written out
abbrev pub is_bytes : List ℕ → Bool
is_bytes [] = true
is_bytes (b ∷ s) = ltb b 256 && is_bytes s

pub tested : (s : List ℕ) → is_bytes s ≡ true → Bytes s
tested [] e = tt
tested (b ∷ s) e = go (ltb b 256) refl e (tested s)
  where
    go : (q : Bool) → ltb b 256 ≡ q → q && is_bytes s ≡ true → (is_bytes s ≡ true → Bytes s) → (b < 256) × Bytes s
    go true i f h = (ltb-true b 256 i, h f)
    go false i f h = let z : ◌≡◌ {A = ℕ} 0 1 = cc in absurd (omega arith)
