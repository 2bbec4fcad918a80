-- The schedule in an array: its own words loaded, then the others stored behind them.
use Rattle.std.proofs.Common.{◌≡◌, ℕ, zero, suc, ◌+◌, ◌-◌, ◌*◌, ◌<◌, ◌≤◌, List, [], length, get_or, take, drop, set, replicate, sym, refl, ap, ◌∙◌, add-one, arith, length-set, take_all, get_or-take, get_or-drop, drop-drop, take-suc-set, le-ltb, lt-ltb, w32}
use Rattle.std.specs.Int.{from_be_bytes}
use Rattle.std.specs.Simd.{first_chunks}
use Rattle.sha1_digest.specs.Compression.{schedule, next_word, mixed, word_at, extended}

-- one word more
more : (s w : List ℕ) (t x : ℕ) → t < length w → take t w ≡ schedule s t → x ≡ next_word s (take t w) t → take (suc t) (set w t x) ≡ schedule s (suc t)
unfolding schedule
more s w t x h e d = rw (take-suc-set w t x h, d, e)

own : (s w : List ℕ) (t : ℕ) → t < 16 → word_at s (t * 4) ≡ next_word s w t
unfolding next_word
own s w t h = rw (lt-ltb t 16 h)

late : (s w : List ℕ) (t : ℕ) → 16 ≤ t → mixed w t ≡ next_word s (take t w) t
unfolding next_word
late s w t h =
    rw (
      le-ltb t 16 h,
      get_or-take t w (t - 3) 0 (omega arith),
      get_or-take t w (t - 8) 0 (omega arith),
      get_or-take t w (t - 14) 0 (omega arith),
      get_or-take t w (t - 16) 0 (omega arith),
    )

-- the four bytes of each word
chunk : (k t : ℕ) (s : List ℕ) → t < k → get_or (first_chunks 4 k s) t [] ≡ take 4 (drop (t * 4) s)
chunk zero t s h = absurd (omega arith)
chunk (suc k) zero s h = refl
chunk (suc k) (suc t) s h =
    let d : suc t * 4 ≡ 4 + t * 4 = omega arith in
    rw d (chunk k t (drop 4 s) (omega arith) ∙ ap (take 4) (drop-drop (t * 4) 4 s))

word_of_chunk : (s : List ℕ) (t : ℕ) → length s ≡ 64 → t < 16 → from_be_bytes w32 (get_or (first_chunks 4 16 s) t []) ≡ word_at s (t * 4)
word_of_chunk s t n h =
    let at : (i : ℕ) → i < 4 → get_or (take 4 (drop (t * 4) s)) i 0 ≡ get_or s (t * 4 + i) 0 =
    λ i l. get_or-take 4 (drop (t * 4) s) i 0 l ∙ get_or-drop (t * 4) s i 0 in
    let z : t * 4 + 0 ≡ t * 4 = omega arith in
    rw (chunk 16 t s h, at 0 (omega arith), at 1 (omega arith), at 2 (omega arith), at 3 (omega arith), z) (omega arith)

-- t of the block's own words are loaded
pub record Loading (s w : List ℕ) (t : ℕ) : Type 0 where
  pub few : t ≤ 16
  pub size : length w ≡ 80
  pub sofar : take t w ≡ schedule s t

pub loading_start : (s : List ℕ) → Loading s (replicate 80 0) 0
unfolding schedule
loading_start s = record { few = omega arith; size = refl; sofar = refl }

pub loading_turn : {s w : List ℕ} {t x : ℕ} {bytes : List (List ℕ)} → Loading s w t → length s ≡ 64 → bytes ≡ first_chunks 4 16 s → t < 16
    → x ≡ from_be_bytes w32 (get_or bytes t []) → Loading s (set w t x) (t + 1)
loading_turn {s} {w} {t} {x} {bytes} l n p h e =
    record {
      few = omega arith;
      size = length-set w t x ∙ l.size;
      sofar =
          rw add-one (
          more s w t x (omega (arith, l.size)) l.sofar (e ∙ rw p (word_of_chunk s t n h) ∙ own s (take t w) t h)
          );
    }

pub loading_done : {s w : List ℕ} {t : ℕ} → Loading s w t → 16 ≤ t → take 16 w ≡ schedule s 16
loading_done {s} {w} {t} l h = let e : t ≡ 16 = omega (arith, l.few) in rw e at l.sofar

-- i of sixteen words more are stored
pub record Extending (v : List ℕ) (from : ℕ) (w : List ℕ) (i : ℕ) : Type 0 where
  pub few : i ≤ 16
  pub size : length w ≡ length v
  pub left : extended w (from + i) (16 - i) ≡ extended v from 16

pub extending_start : (v : List ℕ) (from : ℕ) → Extending v from v 0
extending_start v from = let e : from + 0 ≡ from = omega arith in record { few = omega arith; size = refl; left = rw e }

pub extending_turn : {v w : List ℕ} {from i x : ℕ} → Extending v from w i → i < 16 → x ≡ mixed w (from + i) → Extending v from (set w (from + i) x) (i + 1)
unfolding extended
extending_turn {v} {w} {from} {i} {x} g h e =
    let d : 16 - i ≡ suc (16 - (i + 1)) = omega arith in
    let p : from + (i + 1) ≡ suc (from + i) = omega arith in
    record { few = omega arith; size = length-set w (from + i) x ∙ g.size; left = rw (p, e) (sym (ap (extended w (from + i)) d) ∙ g.left) }

pub extending_done : {v w : List ℕ} {from i : ℕ} → Extending v from w i → 16 ≤ i → w ≡ extended v from 16
unfolding extended
extending_done {v} {w} {from} {i} g h = let e : 16 - i ≡ 0 = omega arith in sym (ap (extended w (from + i)) e) ∙ g.left

-- words stored in their places, each made of those before it, make a longer front of the schedule
pub front : (s w : List ℕ) (t n : ℕ) → 16 ≤ t → t + n ≤ length w → take t w ≡ schedule s t → take (t + n) (extended w t n) ≡ schedule s (t + n)
unfolding extended
front s w t zero h k e = let d : t + 0 ≡ t = omega arith in rw d e
front s w t (suc n) h k e =
    let d : t + suc n ≡ suc t + n = omega arith in
    rw d
    (front s (set w t (mixed w t)) (suc t) n (omega arith) (omega (arith, length-set w t (mixed w t)))
    (more s w t (mixed w t) (omega arith) e (late s w t h)))

pub length-extended : (w : List ℕ) (t n : ℕ) → length (extended w t n) ≡ length w
unfolding extended
length-extended w t zero = refl
length-extended w t (suc n) = length-extended (set w t (mixed w t)) (suc t) n ∙ length-set w t (mixed w t)

-- four times sixteen words behind the block's own
pub whole : (s w : List ℕ) {w₁ w₂ w₃ w₄ : List ℕ} → length w ≡ 80 → take 16 w ≡ schedule s 16
    → w₁ ≡ extended w 16 16 → w₂ ≡ extended w₁ 32 16 → w₃ ≡ extended w₂ 48 16 → w₄ ≡ extended w₃ 64 16 → w₄ ≡ schedule s 80
whole s w {w₁} {w₂} {w₃} {w₄} l e e₁ e₂ e₃ e₄ =
    let l₁ : length w₁ ≡ 80 = ap length e₁ ∙ length-extended w 16 16 ∙ l in
    let l₂ : length w₂ ≡ 80 = ap length e₂ ∙ length-extended w₁ 32 16 ∙ l₁ in
    let l₃ : length w₃ ≡ 80 = ap length e₃ ∙ length-extended w₂ 48 16 ∙ l₂ in
    let l₄ : length w₄ ≡ 80 = ap length e₄ ∙ length-extended w₃ 64 16 ∙ l₃ in
    let f₁ : take 32 w₁ ≡ schedule s 32 = ap (take 32) e₁ ∙ front s w 16 16 (omega arith) (omega arith) e in
    let f₂ : take 48 w₂ ≡ schedule s 48 = ap (take 48) e₂ ∙ front s w₁ 32 16 (omega arith) (omega arith) f₁ in
    let f₃ : take 64 w₃ ≡ schedule s 64 = ap (take 64) e₃ ∙ front s w₂ 48 16 (omega arith) (omega arith) f₂ in
    let f₄ : take 80 w₄ ≡ schedule s 80 = ap (take 80) e₄ ∙ front s w₃ 64 16 (omega arith) (omega arith) f₃ in
    sym (take_all 80 w₄ (omega arith)) ∙ f₄
