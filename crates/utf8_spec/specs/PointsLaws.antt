-- A character of the grammar counts as one code point, since its first byte and no other is outside UTF8-tail.
use Rattle.std.specs.Prelude.{ℕ, suc, ◌≤◌, ◌<◌, List, [], ◌∷◌, ◌++◌, Bool, true, false, ◌&&◌, ◌||◌, ◌≡◌, refl, leb}
use Rattle.std.proofs.lemmas.Bool.{false≢true}
use Rattle.std.proofs.Common.{arith, leb-true}
use Rattle.utf8_spec.specs.Utf8.{◌to◌, Sequence, UTF8-char, Has, none, byte, OneOf, this, later, Among, is}
use Rattle.utf8_spec.specs.Utf8Laws.{inside, below, above, and_left, and_right}
use Rattle.utf8_spec.specs.Points.{starts, points}

starts_below : (b : ℕ) → b < 0x80 → starts b ≡ 1
unfolding starts
starts_below b h = simp (below 0x80 0xBF b h)

starts_above : (b : ℕ) → 0xBF < b → starts b ≡ 1
unfolding starts
starts_above b h = simp (above 0x80 0xBF b h)

starts_not : (b : ℕ) → 0x80 ≤ b → b ≤ 0xBF → starts b ≡ 0
unfolding starts
starts_not b h l = simp (inside 0x80 0xBF b h l)

-- The rule of the table, as one test: ranges within UTF8-tail, behind one that is outside it.
abbrev tails : Sequence → Bool
tails [] = true
tails (lo to hi ∷ q) = (leb 0x80 lo && leb hi 0xBF) && tails q

abbrev leads : Sequence → Bool
leads [] = false
leads (lo to hi ∷ q) = (leb hi 0x7F || leb 0xC0 lo) && tails q

abbrev all_lead : List Sequence → Bool
all_lead [] = true
all_lead (q ∷ qs) = leads q && all_lead qs

rule : all_lead UTF8-char ≡ true
rule = refl

one_leads : {q : Sequence} {qs : List Sequence} → OneOf q qs → all_lead qs ≡ true → leads q ≡ true
one_leads {q} (this {qs = qs}) e = and_left (leads q) (all_lead qs) e
one_leads (later {r = r} {qs = qs} m) e = one_leads m (and_right (leads r) (all_lead qs) e)

tail_points : {q : Sequence} {c : List ℕ} (s : List ℕ) → tails q ≡ true → Has q c → points (c ++ s) ≡ points s
unfolding points
tail_points s e none = refl
tail_points s e (byte {lo} {hi} {b} {q} {c} h l r) =
    let f : (leb 0x80 lo && leb hi 0xBF) ≡ true = and_left (leb 0x80 lo && leb hi 0xBF) (tails q) e in
    let m : 0x80 ≤ lo = leb-true 0x80 lo (and_left (leb 0x80 lo) (leb hi 0xBF) f) in
    let o : hi ≤ 0xBF = leb-true hi 0xBF (and_right (leb 0x80 lo) (leb hi 0xBF) f) in
    omega (arith, starts_not b (omega arith) (omega arith), tail_points s (and_right (leb 0x80 lo && leb hi 0xBF) (tails q) e) r)

lead_starts : (lo hi b : ℕ) → lo ≤ b → b ≤ hi → (leb hi 0x7F || leb 0xC0 lo) ≡ true → starts b ≡ 1
lead_starts lo hi b h l e = by (leb hi 0x7F) refl e
  where
    by : (t : Bool) → leb hi 0x7F ≡ t → (t || leb 0xC0 lo) ≡ true → starts b ≡ 1
    by true f g = starts_below b (omega (arith, leb-true hi 0x7F f))
    by false f g = starts_above b (omega (arith, leb-true 0xC0 lo g))

pub char_points : {c : List ℕ} (s : List ℕ) → Among UTF8-char c → points (c ++ s) ≡ suc (points s)
unfolding points
char_points s (is m h) = lead h (one_leads m rule)
  where
    lead : {q : Sequence} {c : List ℕ} → Has q c → leads q ≡ true → points (c ++ s) ≡ suc (points s)
    lead none e = absurd (false≢true e)
    lead (byte {lo} {hi} {b} {q} {c} h l r) e =
        omega (arith, lead_starts lo hi b h l (and_left (leb hi 0x7F || leb 0xC0 lo) (tails q) e), tail_points s (and_right (leb hi 0x7F || leb 0xC0 lo) (tails q) e) r)
