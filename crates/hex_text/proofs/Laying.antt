-- The loops of `spell` and `show`: what i turns have laid into the buffer.
use Rattle.std.specs.Prelude.{ℕ, ◌+◌, ◌*◌, ◌/◌, ◌%◌, ◌≤◌, ◌<◌, min, List, ◌≡◌, length, get_or, set, take}
use Rattle.std.proofs.Common.{sym, ap, ◌∙◌, arith, ⊎_elim, length-take}
use Rattle.std.proofs.lemmas.Bool.{cases_lt}
use Rattle.std.proofs.Math.Seq.{take_all}
use Rattle.std.proofs.Math.Nat.{min-le_left, min-le_right, min_comm}
use Rattle.std.proofs.lemmas.List.{get_or-take}
use Rattle.base.specs.LaidLaws.{Laying, laying_turn, laying_done}
use Rattle.base.specs.Laid.{laid}
use Rattle.digits.specs.Digit.{digit_of, first_bad}
use Rattle.hex_text.specs.Hex.{glyph_of, spelt, digits, unhexed, shown, showing}
use Rattle.hex_text.specs.HexLaws.{length-spelt, spelt_at, length_digits, high_at, low_at}
use Rattle.hex_text.proofs.Places.{each}

-- one byte more, at the front of the buffer
next : {l w m : List ℕ} {j x : ℕ} → Laying l w 0 m j → j < length w → x ≡ get_or w j 0 → Laying l w 0 (set m j x) (j + 1)
next {l} {w} {m} {j} {x} g h e =
    let z : 0 + j ≡ j = omega arith in
    let y : get_or w j 0 ≡ x = sym e in
    rw (z, y) at (laying_turn g h)

-- what fits of the bytes that are spelt
abbrev pub fitting : List ℕ → List ℕ → List ℕ
fitting l s = take (length l) (spelt s)

length-fitting : (l s : List ℕ) → length (fitting l s) ≡ min (length s / 2) (length l)
length-fitting l s = length-take (length l) (spelt s) ∙ ap (min (length l)) (length-spelt s) ∙ min_comm (length l) (length s / 2)

module _ (l s : List ℕ) {m : List ℕ} {i n : ℕ} (g : Laying l (fitting l s) 0 m i) (e : n ≡ min (length s / 2) (length l)) where
  module _ (h : i < n) where
    inside : i < length s / 2
    inside = omega (arith, min-le_left (length s / 2) (length l))

    pub first_good : first_bad s ≡ length s → digit_of (get_or s (i * 2) 0) < 16
    first_good q = each s (i * 2) q (omega (arith, inside))

    pub second_good : first_bad s ≡ length s → digit_of (get_or s (i * 2 + 1) 0) < 16
    second_good q = each s (i * 2 + 1) q (omega (arith, inside))

    pub spell_turn : {a b : ℕ} → a ≡ digit_of (get_or s (i * 2) 0) → b ≡ digit_of (get_or s (i * 2 + 1) 0)
        → Laying l (fitting l s) 0 (set m i (a * 16 + b)) (i + 1)
    spell_turn p q =
        next g (omega (arith, length-fitting l s))
        (rw (p, q) (spelt_at s i inside ∙ sym (get_or-take (length l) (spelt s) i 0 (omega (arith, min-le_right (length s / 2) (length l))))))

  pub spell_done : n ≤ i → m ≡ unhexed l s
  unfolding unhexed
  spell_done h = laying_done g (omega (arith, length-fitting l s))

module _ (l t : List ℕ) {m : List ℕ} {i : ℕ} (g : Laying l (digits t) 0 m (i * 2)) where
  pub show_turn : {a b : ℕ} → i < length t → a ≡ glyph_of (get_or t i 0 / 16) → b ≡ glyph_of (get_or t i 0 % 16)
      → Laying l (digits t) 0 (set (set m (i * 2) a) (i * 2 + 1) b) ((i + 1) * 2)
  show_turn {a} {b} h p q =
      let w : length (digits t) ≡ length t * 2 = length_digits t in
      let r : Laying l (digits t) 0 (set (set m (i * 2) a) (i * 2 + 1) b) (i * 2 + 1 + 1) =
      next (next g (omega arith) (p ∙ high_at t i h)) (omega arith) (q ∙ low_at t i h)
      in
      let z : i * 2 + 1 + 1 ≡ (i + 1) * 2 = omega arith in
      rw z at r

  pub show_done : length t ≤ i → m ≡ laid l 0 (digits t)
  show_done h = laying_done g (omega (arith, length_digits t))

module _ (l d : List ℕ) {n : ℕ} (e : n ≡ min (length d) (length l / 2)) where
  front : take n d ≡ take (length l / 2) d
  front = ⊎_elim
      (λ h. let f : n ≡ length l / 2 = omega arith in rw f)
      (λ h. take_all n d (omega arith) ∙ sym (take_all (length l / 2) d h))
      (cases_lt (length l / 2) (length d))

  pub show_shown : n ≡ shown l d
  unfolding shown
  show_shown = e ∙ min_comm (length d) (length l / 2) ∙ sym (length-take (length l / 2) d)

  pub show_showing : {m : List ℕ} → m ≡ laid l 0 (digits (take n d)) → m ≡ showing l d
  unfolding showing
  show_showing q = q ∙ ap (λ (t : List ℕ). laid l 0 (digits t)) front
