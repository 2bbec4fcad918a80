-- The grammar and the yes or no of Utf8 agree (`octets_yes`, `yes_octets`), with laws of both for callers.
use Rattle.std.specs.Prelude.{ℕ, zero, suc, ◌-◌, ◌≤◌, ◌<◌, List, [], ◌∷◌, ◌++◌, Bool, true, false, ◌&&◌, ◌≡◌, refl, length, get_or, take, drop, leb}
use Rattle.std.proofs.lemmas.Bool.{false≢true, lt-leb}
use Rattle.std.proofs.Common.{sym, ap, ◌∙◌, arith, take-append-drop, length-drop, le-leb, leb-true}
use Rattle.std.proofs.Math.Decide.{dec_le}
use Rattle.std.proofs.Math.Seq.{drop-append_seam}
use Rattle.base.specs.Choice.{pick}
use Rattle.utf8_spec.specs.Utf8.{◌to◌, Sequence, UTF8-char, Has, none, byte, OneOf, this, later, Among, is, Octets, end, char, begins, first, width, goes, is_utf8}

pub inside : (lo hi b : ℕ) → lo ≤ b → b ≤ hi → (leb lo b && leb b hi) ≡ true
inside lo hi b h l = rw (le-leb lo b h, le-leb b hi l)

pub below : (lo hi b : ℕ) → b < lo → (leb lo b && leb b hi) ≡ false
below lo hi b h = rw (lt-leb lo b h)

pub above : (lo hi b : ℕ) → hi < b → (leb lo b && leb b hi) ≡ false
above lo hi b h = by (leb lo b)
  where
    by : (t : Bool) → (t && leb b hi) ≡ false
    by true = lt-leb b hi h
    by false = refl

-- both of two tests
pub and_left : (x y : Bool) → (x && y) ≡ true → x ≡ true
and_left true y e = refl
and_left false y e = e

pub and_right : (x y : Bool) → (x && y) ≡ true → y ≡ true
and_right true y e = e
and_right false y e = absurd (false≢true e)

module _ (lo hi b : ℕ) (x : Bool) (e : (leb lo b && leb b hi && x) ≡ true) where
  pub is_least : lo ≤ b
  is_least = leb-true lo b (and_left (leb lo b) (leb b hi) (and_left (leb lo b && leb b hi) x e))

  pub is_most : b ≤ hi
  is_most = leb-true b hi (and_right (leb lo b) (leb b hi) (and_left (leb lo b && leb b hi) x e))

  pub is_rest : x ≡ true
  is_rest = and_right (leb lo b && leb b hi) x e

-- a sequence's bytes
pub has_length : {q : Sequence} {c : List ℕ} → Has q c → length c ≡ length q
has_length none = refl
has_length (byte h l r) = ap suc (has_length r)

pub has_begins : {q : Sequence} {c : List ℕ} (s : List ℕ) → Has q c → begins q (c ++ s) ≡ true
unfolding begins
has_begins s none = refl
has_begins s (byte {lo} {hi} {b} h l r) = simp (inside lo hi b h l, has_begins s r)

pub begins_has : (q : Sequence) (s : List ℕ) → begins q s ≡ true → Has q (take (length q) s)
unfolding begins
begins_has [] s e = none
begins_has (r ∷ q) [] e = absurd (false≢true e)
begins_has (lo to hi ∷ q) (b ∷ s) e =
    byte (is_least lo hi b (begins q s) e) (is_most lo hi b (begins q s) e) (begins_has q s (is_rest lo hi b (begins q s) e))

pub begins_fits : (q : Sequence) (s : List ℕ) → begins q s ≡ true → length q ≤ length s
unfolding begins
begins_fits [] s e = omega arith
begins_fits (r ∷ q) [] e = absurd (false≢true e)
begins_fits (lo to hi ∷ q) (b ∷ s) e = omega (arith, begins_fits q s (is_rest lo hi b (begins q s) e))

-- the alternatives by number, from 0 on
abbrev pub row : {qs : List Sequence} (k : ℕ) → k < length qs → OneOf (get_or qs k []) qs
row {qs = []} k h = absurd (omega arith)
row {qs = q ∷ qs} zero h = this
row {qs = q ∷ qs} (suc k) h = later (row {qs = qs} k (omega arith))

-- The alternatives are told apart by the first byte: their first ranges stand in order, none below n.
abbrev pub apart : ℕ → List Sequence → Bool
apart n [] = true
apart n ([] ∷ qs) = false
apart n ((lo to hi ∷ q) ∷ qs) = leb n lo && leb lo hi && apart (suc hi) qs

all_apart : apart 0 UTF8-char ≡ true
all_apart = refl

-- a byte below every alternative
pub first_below : (n : ℕ) (qs : List Sequence) (b : ℕ) (s : List ℕ) → apart n qs ≡ true → b < n → first qs (b ∷ s) ≡ 0
unfolding first begins
first_below n [] b s e h = refl
first_below n ([] ∷ qs) b s e h = absurd (false≢true e)
first_below n ((lo to hi ∷ q) ∷ qs) b s e h =
    let m : n ≤ lo = is_least n hi lo (apart (suc hi) qs) e in
    let o : lo ≤ hi = is_most n hi lo (apart (suc hi) qs) e in
    simp (below lo hi b (omega arith)) (first_below (suc hi) qs b s (is_rest n hi lo (apart (suc hi) qs) e) (omega arith))

first_here : (n lo hi : ℕ) (q : Sequence) (qs : List Sequence) (b : ℕ) (s : List ℕ) → apart n ((lo to hi ∷ q) ∷ qs) ≡ true → lo ≤ b → b ≤ hi
    → first ((lo to hi ∷ q) ∷ qs) (b ∷ s) ≡ pick (begins q s) (suc (length q)) 0
unfolding first begins
first_here n lo hi q qs b s e h l =
    simp (inside lo hi b h l, first_below (suc hi) qs b s (is_rest n hi lo (apart (suc hi) qs) e) (omega arith))

pub first_past : (lo hi : ℕ) (q : Sequence) (qs : List Sequence) (b : ℕ) (s : List ℕ) → hi < b → first ((lo to hi ∷ q) ∷ qs) (b ∷ s) ≡ first qs (b ∷ s)
unfolding first begins
first_past lo hi q qs b s h = simp (above lo hi b h)

one_least : {lo hi : ℕ} {q : Sequence} {qs : List Sequence} (n : ℕ) → OneOf (lo to hi ∷ q) qs → apart n qs ≡ true → n ≤ lo
one_least {lo} {hi} n (this {qs = qs}) e = is_least n hi lo (apart (suc hi) qs) e
one_least n (later {r = []} m) e = absurd (false≢true e)
one_least {lo} {hi} n (later {r = a to z ∷ r} {qs} m) e =
    let h : n ≤ a = is_least n z a (apart (suc z) qs) e in
    let l : a ≤ z = is_most n z a (apart (suc z) qs) e in
    omega (arith, one_least (suc z) m (is_rest n z a (apart (suc z) qs) e))

-- an alternative is chosen by its first byte
first_one : {lo hi : ℕ} {q : Sequence} {qs : List Sequence} (n b : ℕ) (s : List ℕ) → OneOf (lo to hi ∷ q) qs → apart n qs ≡ true → lo ≤ b → b ≤ hi
    → first qs (b ∷ s) ≡ pick (begins q s) (suc (length q)) 0
first_one {lo} {hi} {q} n b s (this {qs = qs}) e h l = first_here n lo hi q qs b s e h l
first_one n b s (later {r = []} m) e h l = absurd (false≢true e)
first_one n b s (later {r = a to z ∷ r} {qs} m) e h l =
    let f : apart (suc z) qs ≡ true = is_rest n z a (apart (suc z) qs) e in
    first_past a z r qs b s (omega (arith, one_least (suc z) m f)) ∙ first_one (suc z) b s m f h l

pub width_one : {lo hi : ℕ} {q : Sequence} (b : ℕ) (s : List ℕ) → OneOf (lo to hi ∷ q) UTF8-char → lo ≤ b → b ≤ hi → width (b ∷ s) ≡ pick (begins q s) (suc (length q)) 0
unfolding width
width_one b s m h l = first_one 0 b s m all_apart h l

some : {qs : List Sequence} (n : ℕ) → OneOf [] qs → apart n qs ≡ true → ⊥
some n this e = false≢true e
some n (later {r = []} m) e = false≢true e
some n (later {r = a to z ∷ r} {qs} m) e = some (suc z) m (is_rest n z a (apart (suc z) qs) e)

pub char_some : {c : List ℕ} → Among UTF8-char c → 1 ≤ length c
char_some (is m none) = absurd (some 0 m all_apart)
char_some (is m (byte h l r)) = omega arith

-- a character's bytes are its width, whatever follows
pub width_char : {c : List ℕ} (s : List ℕ) → Among UTF8-char c → width (c ++ s) ≡ length c
width_char s (is m none) = absurd (some 0 m all_apart)
width_char s (is m (byte {b = b} {c = c} h l r)) = width_one b (c ++ s) m h l ∙ simp (has_begins s r, has_length r)

-- and what has a width begins with a character
pub record Found (qs : List Sequence) (s : List ℕ) (w : ℕ) : Type 0 where
  pub chars : Among qs (take w s)
  pub fits : w ≤ length s

among_later : {q : Sequence} {qs : List Sequence} {c : List ℕ} → Among qs c → Among (q ∷ qs) c
among_later (is m h) = is (later m) h

first_found : (qs : List Sequence) (s : List ℕ) → 1 ≤ first qs s → Found qs s (first qs s)
unfolding first
first_found [] s h = absurd (omega arith)
first_found (q ∷ qs) s h = by (begins q s) refl h (λ l. first_found qs s l)
  where
    by : (t : Bool) → begins q s ≡ t → 1 ≤ pick t (length q) (first qs s) → (1 ≤ first qs s → Found qs s (first qs s))
        → Found (q ∷ qs) s (pick t (length q) (first qs s))
    by true e l f = record { chars = is this (begins_has q s e); fits = begins_fits q s e }
    by false e l f = let r = f l in record { chars = among_later r.chars; fits = r.fits }

pub width_found : (s : List ℕ) → 1 ≤ width s → Found UTF8-char s (width s)
unfolding width
width_found s h = first_found UTF8-char s h

-- character by character
goes_drop : (k : ℕ) (s : List ℕ) → k ≤ length s → goes k s ≡ is_utf8 (drop k s)
unfolding goes is_utf8
goes_drop zero s h = refl
goes_drop (suc k) [] h = absurd (omega arith)
goes_drop (suc k) (b ∷ s) h = goes_drop k s (omega arith)

past : (w b : ℕ) (s : List ℕ) → 1 ≤ w → w ≤ suc (length s) → (leb 1 w && goes (w - 1) s) ≡ is_utf8 (drop w (b ∷ s))
past zero b s h l = absurd (omega arith)
past (suc k) b s h l = let e : suc k - 1 ≡ k = omega arith in rw (le-leb 1 (suc k) h, e) (goes_drop k s (omega arith))

pub utf8_width : (s : List ℕ) → 1 ≤ width s → is_utf8 s ≡ is_utf8 (drop (width s) s)
unfolding goes is_utf8
utf8_width [] h = absurd (omega (arith, (width_found [] h).fits))
utf8_width (b ∷ s) h = past (width (b ∷ s)) b s h (width_found (b ∷ s) h).fits

pub utf8_none : (b : ℕ) (s : List ℕ) → width (b ∷ s) ≡ 0 → is_utf8 (b ∷ s) ≡ false
unfolding goes is_utf8
utf8_none b s h = simp h

pub utf8_empty : is_utf8 [] ≡ true
unfolding goes is_utf8
utf8_empty = refl

-- a character before a list leaves its answer as it is
pub utf8_char : {c : List ℕ} (s : List ℕ) → Among UTF8-char c → is_utf8 (c ++ s) ≡ is_utf8 s
utf8_char {c} s h =
    let e : width (c ++ s) ≡ length c = width_char s h in
    utf8_width (c ++ s) (omega (arith, char_some h)) ∙ ap (λ (k : ℕ). is_utf8 (drop k (c ++ s))) e ∙ ap is_utf8 (drop-append_seam c s)

-- and so does a row of the grammar that bytes begin with
pub utf8_row : {q : Sequence} (s : List ℕ) → OneOf q UTF8-char → begins q s ≡ true → is_utf8 (drop (length q) s) ≡ is_utf8 s
utf8_row {q} s m e =
    sym (ap is_utf8 (sym (take-append-drop (length q) s)) ∙ utf8_char (drop (length q) s) (is m (begins_has q s e)))

-- THE GRAMMAR AND THE YES OR NO AGREE
pub octets_yes : {s : List ℕ} → Octets s → is_utf8 s ≡ true
octets_yes end = utf8_empty
octets_yes (char {s = s} h r) = utf8_char s h ∙ octets_yes r

front : (s : List ℕ) (w : ℕ) → Found UTF8-char s w → Octets (drop w s) → Octets s
front s w f r = let o : Octets (take w s ++ drop w s) = char f.chars r in rw take-append-drop at o

within : (n : ℕ) (s : List ℕ) → length s ≤ n → is_utf8 s ≡ true → Octets s
within zero [] h e = end
within zero (b ∷ s) h e = absurd (omega arith)
within (suc n) [] h e = end
within (suc n) (b ∷ s) h e = by (dec_le 1 (width (b ∷ s))) (λ r l f. within n r l f)
  where
    by : Dec (1 ≤ width (b ∷ s)) → ((r : List ℕ) → length r ≤ n → is_utf8 r ≡ true → Octets r) → Octets (b ∷ s)
    by (yes l) f =
        front (b ∷ s) (width (b ∷ s)) (width_found (b ∷ s) l)
        (f (drop (width (b ∷ s)) (b ∷ s)) (simp length-drop (omega arith)) (sym (utf8_width (b ∷ s) l) ∙ e))
    by (no l) f = absurd (false≢true (sym (utf8_none b s (omega arith)) ∙ e))

pub yes_octets : (s : List ℕ) → is_utf8 s ≡ true → Octets s
yes_octets s e = within (length s) s (omega arith) e

-- ASCII
pub utf8_ascii : (b : ℕ) (s : List ℕ) → b < 0x80 → is_utf8 (b ∷ s) ≡ is_utf8 s
utf8_ascii b s h = utf8_char {c = b ∷ []} s (is this (byte (omega arith) (omega arith) none))

pub ascii_utf8 : (s : List ℕ) → ((i : ℕ) → get_or s i 0 < 0x80) → is_utf8 s ≡ true
ascii_utf8 [] h = utf8_empty
ascii_utf8 (b ∷ s) h = utf8_ascii b s (h 0) ∙ ascii_utf8 s (λ i. h (suc i))
