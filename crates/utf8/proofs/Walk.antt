-- From a place to a later one by whole characters: the steps of the loops, and what `is_utf8` answers.
use Rattle.std.proofs.Common.{ℕ, zero, suc, ◌+◌, ◌≤◌, ◌<◌, List, [], ◌∷◌, Bool, true, false, ◌≡◌, refl, sym, ap, ◌∙◌, arith, length, get_or, drop, drop_of_length-le, length-drop, drop-cons, drop-drop, ltb, ltb-true}
use Rattle.std.proofs.lemmas.Bool.{false≢true}
use Rattle.std.proofs.Math.Decide.{dec_le}
use Rattle.utf8_spec.specs.Utf8.{Sequence, UTF8-char, OneOf, begins, width, is_utf8}
use Rattle.utf8_spec.specs.Utf8Laws.{is_most, is_rest, begins_fits, width_found, utf8_empty, utf8_width, utf8_none, utf8_row, utf8_ascii}
use Rattle.utf8.specs.Places.{width_at}
use Rattle.utf8.specs.Steps.{ones, On, Past}

pub here : (s : List ℕ) (i : ℕ) → i ≤ length s → On s i i
here s i h = record { onward = omega arith; within = h; same = refl }

pub on_on : {s : List ℕ} {i j k : ℕ} → On s i j → On s j k → On s i k
on_on x y = record { onward = omega (arith, x.onward, y.onward); within = y.within; same = y.same ∙ x.same }

-- n bytes at j, behind which the answer is the same
ahead : {s : List ℕ} {i j : ℕ} (n : ℕ) → On s i j → n ≤ length (drop j s) → is_utf8 (drop n (drop j s)) ≡ is_utf8 (drop j s) → On s i (j + n)
ahead {s} {i} {j} n x h e =
    record {
      onward = omega (arith, x.onward);
      within = omega (arith, h, length-drop j s, x.within);
      same = ap is_utf8 (sym (drop-drop n j s)) ∙ e ∙ x.same;
    }

-- a row of the grammar
pub on_row : {q : Sequence} → OneOf q UTF8-char → {s : List ℕ} {i j : ℕ} {r : Bool} → On s i j → r ≡ begins q (drop j s) → r ≡ true → On s i (j + length q)
on_row {q} m {s} {i} {j} x e t =
    ahead (length q) x (begins_fits q (drop j s) (sym e ∙ t)) (utf8_row (drop j s) m (sym e ∙ t))

-- UTF8-1 over and over
length-ones : (n : ℕ) → length (ones n) ≡ n
unfolding ones
length-ones zero = refl
length-ones (suc n) = ap suc (length-ones n)

utf8_ones : (n : ℕ) (s : List ℕ) → begins (ones n) s ≡ true → is_utf8 (drop n s) ≡ is_utf8 s
unfolding ones begins
utf8_ones zero s e = refl
utf8_ones (suc n) [] e = absurd (false≢true e)
utf8_ones (suc n) (b ∷ s) e =
    let h : b ≤ 0x7F = is_most 0 0x7F b (begins (ones n) s) e in
    utf8_ones n s (is_rest 0 0x7F b (begins (ones n) s) e) ∙ sym (utf8_ascii b s (omega arith))

pub on_ones : (n : ℕ) {s : List ℕ} {i j : ℕ} {r : Bool} → On s i j → r ≡ begins (ones n) (drop j s) → r ≡ true → On s i (j + n)
on_ones n {s} {i} {j} x e t =
    ahead n x (omega (arith, begins_fits (ones n) (drop j s) (sym e ∙ t), length-ones n)) (utf8_ones n (drop j s) (sym e ∙ t))

on_one : {s : List ℕ} {i j : ℕ} → On s i j → j < length s → get_or s j 0 < 0x80 → On s i (j + 1)
on_one {s} {i} {j} x h l =
    let d : drop j s ≡ get_or s j 0 ∷ drop (suc j) s = drop-cons s j 0 h in
    ahead 1 x (omega (arith, length-drop j s)) (ap (λ (t : List ℕ). is_utf8 (drop 1 t)) d ∙ sym (utf8_ascii (get_or s j 0) (drop (suc j) s) l) ∙ ap is_utf8 (sym d))

pub on_later : {s : List ℕ} {i j : ℕ} → On s i j → j < length s → ltb (get_or s j 0) 0x80 ≡ true → On s i (j + 1)
on_later {s} {i} {j} x h t = on_one x h (ltb-true (get_or s j 0) 0x80 t)

-- a run of them that begins at i: it is one alone, or ends at another byte, or at the end
pub past_one : {s : List ℕ} {i : ℕ} → i < length s → get_or s i 0 < 0x80 → Past s i (i + 1)
past_one {s} {i} h l = record { some = omega arith; on = on_one (here s i (omega arith)) h l }

-- a character by its width
module _ (s : List ℕ) (i n : ℕ) (h : i < length s) (e : n ≡ width_at s i) where
  pub fits : i + n ≤ length s
  unfolding width_at
  fits = by (dec_le 1 n)
    where
      by : Dec (1 ≤ n) → i + n ≤ length s
      by (yes l) = omega (arith, (width_found (drop i s) (omega arith)).fits, length-drop i s)
      by (no l) = omega arith

  pub past_char : (n ≡ 0 → ⊥) → Past s i (i + n)
  unfolding width_at
  past_char z =
      record {
        some = omega arith;
        on =
            ahead n (here s i (omega arith)) (omega (arith, fits, length-drop i s))
            (ap (λ (k : ℕ). is_utf8 (drop k (drop i s))) e ∙ sym (utf8_width (drop i s) (omega arith)));
      }

  pub none_here : n ≡ 0 → false ≡ is_utf8 (drop i s)
  unfolding width_at
  none_here z =
      let d : drop i s ≡ get_or s i 0 ∷ drop (suc i) s = drop-cons s i 0 h in
      sym (utf8_none (get_or s i 0) (drop (suc i) s) (ap width (sym d) ∙ sym e ∙ z)) ∙ ap is_utf8 (sym d)

pub done : {s : List ℕ} {i : ℕ} → On s 0 i → length s ≤ i → true ≡ is_utf8 s
done {s} {i} x h = sym utf8_empty ∙ ap is_utf8 (sym (drop_of_length-le s {i = i} h)) ∙ x.same

-- a turn of the loop: past a run of bytes below 128 or another character, and past the three rows
pub turned : {s : List ℕ} {i a b c d : ℕ} → On s 0 i → Past s i a → On s a b → On s b c → On s c d → On s 0 d
turned w p x y z = on_on w (on_on p.on (on_on x (on_on y z)))
