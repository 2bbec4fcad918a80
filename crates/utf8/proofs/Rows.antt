-- What `width_at` answers: each call that it makes is a row of the grammar, and the bytes in between start no row.
use Rattle.std.proofs.Common.{ℕ, suc, ◌+◌, ◌≤◌, ◌<◌, List, [], ◌∷◌, ◌++◌, Bool, true, false, ◌&&◌, ◌≡◌, refl, sym, ap, ◌∙◌, arith, add-one, length, get_or, drop, drop-cons, leb, leb-true, le-leb}
use Rattle.std.proofs.lemmas.Bool.{false≢true}
use Rattle.base.specs.Choice.{pick}
use Rattle.utf8_spec.specs.Utf8.{◌to◌, Sequence, UTF8-1, UTF8-2, UTF8-3, UTF8-4, UTF8-char, OneOf, begins, first, width}
use Rattle.utf8_spec.specs.Utf8Laws.{and_left, and_right, apart, row, first_below, first_past, width_one}
use Rattle.utf8.specs.Places.{width_at}

at_place : (s : List ℕ) (at : ℕ) → at < length s → get_or s at 0 ∷ drop (at + 1) s ≡ drop at s
at_place s at h = sym (rw (add-one, drop-cons s at 0 h))

-- the byte at the place is of a row's first range
pub row_width : {lo hi : ℕ} {q : Sequence} → OneOf (lo to hi ∷ q) UTF8-char → (s : List ℕ) (at r : ℕ) → at < length s → lo ≤ get_or s at 0 → get_or s at 0 ≤ hi
    → r ≡ pick (begins (lo to hi ∷ q) (drop at s)) (suc (length q)) 0 → r ≡ width_at s at
unfolding width_at begins
row_width {lo} {hi} {q} m s at r h l o e =
    let b = get_or s at 0 in
    let t = drop (at + 1) s in
    let d : begins (lo to hi ∷ q) (b ∷ t) ≡ begins q t = rw (le-leb lo b l, le-leb b hi o) refl in
    e ∙ ap (λ (u : List ℕ). pick (begins (lo to hi ∷ q) u) (suc (length q)) 0) (sym (at_place s at h))
    ∙ ap (λ (x : Bool). pick x (suc (length q)) 0) d ∙ sym (width_one b t m l o) ∙ ap width (at_place s at h)

pub alone : (s : List ℕ) (at : ℕ) → at < length s → get_or s at 0 ≤ 0x7F → 1 ≡ width_at s at
unfolding width_at begins
alone s at h l = sym (width_one (get_or s at 0) (drop (at + 1) s) (row 0 (omega arith)) (omega arith) l) ∙ ap width (at_place s at h)

-- rows whose first range is below n
abbrev under : ℕ → List Sequence → Bool
under n [] = true
under n ([] ∷ qs) = false
under n ((lo to hi ∷ q) ∷ qs) = leb (suc hi) n && under n qs

gap : (n m : ℕ) (qs rs : List Sequence) (b : ℕ) (s : List ℕ) → under n qs ≡ true → apart m rs ≡ true → n ≤ b → b < m → first (qs ++ rs) (b ∷ s) ≡ 0
gap n m [] rs b s e f h l = first_below m rs b s f l
gap n m ([] ∷ qs) rs b s e f h l = absurd (false≢true e)
gap n m ((lo to hi ∷ q) ∷ qs) rs b s e f h l =
    let t : suc hi ≤ n = leb-true (suc hi) n (and_left (leb (suc hi) n) (under n qs) e) in
    first_past lo hi q (qs ++ rs) b s (omega arith) ∙ gap n m qs rs b s (and_right (leb (suc hi) n) (under n qs) e) f h l

module _ (s : List ℕ) (at : ℕ) (h : at < length s) where
  pub none_between : 0x80 ≤ get_or s at 0 → get_or s at 0 < 0xC2 → 0 ≡ width_at s at
  unfolding width_at width
  none_between l m =
      sym (gap 0x80 0xC2 UTF8-1 (UTF8-2 ++ UTF8-3 ++ UTF8-4) (get_or s at 0) (drop (at + 1) s) refl refl l m) ∙ ap (first UTF8-char) (at_place s at h)

  pub none_above : 0xF5 ≤ get_or s at 0 → 0 ≡ width_at s at
  unfolding width_at width
  none_above l = sym (gap 0xF5 (suc (get_or s at 0)) UTF8-char [] (get_or s at 0) (drop (at + 1) s) refl refl l (omega arith)) ∙ ap (first UTF8-char) (at_place s at h)
