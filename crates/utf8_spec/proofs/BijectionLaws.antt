-- THE THEOREM: UTF-8 is the encodings of scalar values, one after the other, each list of values in one way.
-- So no overlong form, surrogate or number above 10FFFF is in it.
use Rattle.std.specs.Prelude.{ℕ, suc, List, [], ◌∷◌, ◌++◌, true, ◌≡◌, refl, length, take, drop}
use Rattle.std.proofs.Common.{sym, ap, ◌∙◌, arith, length-append}
use Rattle.std.proofs.Math.Seq.{take-append_seam, drop-append_seam}
use Rattle.utf8_spec.specs.Utf8.{UTF8-char, Among, Octets, end, char, width, is_utf8}
use Rattle.utf8_spec.specs.Utf8Laws.{char_some, width_char, utf8_empty, utf8_char, yes_octets}
use Rattle.utf8_spec.specs.Scalars.{Scalars, encode, join, Joined}
use Rattle.utf8_spec.proofs.ScalarsLaws.{Encoded, char_encoded, scalar_char, encode_once}
use Rattle.utf8_spec.specs.Points.{points}
use Rattle.utf8_spec.specs.PointsLaws.{char_points}

-- scalar values, encoded and joined, are UTF-8
pub joined_utf8 : (ns : List ℕ) → Scalars ns → is_utf8 (join ns) ≡ true
joined_utf8 [] h = utf8_empty
joined_utf8 (n ∷ ns) h = utf8_char (join ns) (scalar_char h.0) ∙ joined_utf8 ns h.1

one_more : {c s : List ℕ} → Encoded c → Joined s → Joined (c ++ s)
one_more {c} {s} e r =
    record { numbers = e.number ∷ r.numbers; scalars = (e.scalar, r.scalars); bytes = ap (◌++ join r.numbers) e.bytes ∙ ap (c ++◌) r.bytes }

-- whatever is UTF-8 is such a join
pub utf8_joined : (s : List ℕ) → is_utf8 s ≡ true → Joined s
utf8_joined s h = by (yes_octets s h)
  where
    by : {s : List ℕ} → Octets s → Joined s
    by end = record { numbers = []; scalars = tt; bytes = refl }
    by (char h r) = one_more (char_encoded h) (by r)

-- of one list only
no_more : {c : List ℕ} (s : List ℕ) → Among UTF8-char c → [] ≡ c ++ s → ⊥
no_more {c} s h e = omega (arith, char_some h, ap length e, length-append c s)

module _ (c d s t : List ℕ) (h : Among UTF8-char c) (l : Among UTF8-char d) (e : c ++ s ≡ d ++ t) where
  same_length : length c ≡ length d
  same_length = sym (width_char s h) ∙ ap width e ∙ width_char t l

  same_char : c ≡ d
  same_char = sym (take-append_seam c s) ∙ ap (take (length c)) e ∙ ap (λ (k : ℕ). take k (d ++ t)) same_length ∙ take-append_seam d t

  same_rest : s ≡ t
  same_rest = sym (drop-append_seam c s) ∙ ap (drop (length c)) e ∙ ap (λ (k : ℕ). drop k (d ++ t)) same_length ∙ drop-append_seam d t

pub joined_once : (ms ns : List ℕ) → Scalars ms → Scalars ns → join ms ≡ join ns → ms ≡ ns
joined_once [] [] h l e = refl
joined_once [] (n ∷ ns) h l e = absurd (no_more (join ns) (scalar_char l.0) e)
joined_once (m ∷ ms) [] h l e = absurd (no_more (join ms) (scalar_char h.0) (sym e))
joined_once (m ∷ ms) (n ∷ ns) h l e =
    let c : encode m ≡ encode n = same_char (encode m) (encode n) (join ms) (join ns) (scalar_char h.0) (scalar_char l.0) e in
    let r : join ms ≡ join ns = same_rest (encode m) (encode n) (join ms) (join ns) (scalar_char h.0) (scalar_char l.0) e in
    let p : m ≡ n = encode_once m n c in
    let q : ms ≡ ns = joined_once ms ns h.1 l.1 r in
    cc

-- and it has as many code points
pub joined_points : (ns : List ℕ) → Scalars ns → points (join ns) ≡ length ns
unfolding points
joined_points [] h = refl
joined_points (n ∷ ns) h = char_points (join ns) (scalar_char h.0) ∙ ap suc (joined_points ns h.1)
