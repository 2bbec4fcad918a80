-- The zeros in front as the standard library counts them, and the longest run so far.
use Rattle.std.specs.Prelude.{ℕ, suc, ◌+◌, ◌≤◌, ◌<◌, ◌==◌, Bool, true, false, List, [], ◌∷◌, ◌≡◌, refl, cond, length, drop}
use Rattle.std.proofs.Common.{◌∙◌, arith, add-one, lt-ltb, le-ltb, drop-cons, drop_of_length-le}
use Rattle.std.proofs.lemmas.List.Folds.{length-prefix_len}
use Rattle.std.specs.List.{prefix_len, take_while, between}
use Rattle.std.proofs.lemmas.Slice.{between_to_end}
use Rattle.base.specs.Choice.{pick}
use Rattle.display.specs.declared.Span.{Span}
use Rattle.display.specs.Span.{span}
use Rattle.display.specs.Zeros.{leading, better_of, longest_from, two_or_more, longest}

front : (s : List ℕ) → prefix_len (λ g. g == 0) s ≡ leading s
unfolding leading
front [] = refl
front (x ∷ s) = go (x == 0) (front s)
  where
    go : (t : Bool) → prefix_len (λ g. g == 0) s ≡ leading s → cond t (1 + prefix_len (λ g. g == 0) s) 0 ≡ pick t (suc (leading s)) 0
    go true e = omega arith
    go false e = refl

zeros_are : (s : List ℕ) → length (take_while (λ g. g == 0) s) ≡ leading s
zeros_are s = length-prefix_len (λ g. g == 0) s ∙ front s

module _ (s : List ℕ) (b : Span) {i : ℕ} (g : longest_from i b (drop i s) ≡ longest_from 0 (span 0 0) s) where
  pub turn : {c : Span} {n : ℕ} → i < length s → n ≡ length (take_while (λ x. x == 0) (between i (length s) s)) → c ≡ better_of b i n
      → longest_from (i + 1) c (drop (i + 1) s) ≡ longest_from 0 (span 0 0) s
  unfolding longest_from
  turn h e f =
      let q = drop-cons s i 0 h in
      let k = between_to_end s i (length s) (omega arith) in
      rw (add-one, f, e, zeros_are (between i (length s) s), k, q) (rw q at g)

  module _ (h : length s ≤ i) where
    found : b ≡ longest_from 0 (span 0 0) s
    unfolding longest_from
    found = rw (drop_of_length-le s {i = i} h) at g

    pub none : b.size < 2 → span 0 0 ≡ longest s
    unfolding longest two_or_more
    none l = rw (← found) (simp (lt-ltb _ _ l))

    pub some : 2 ≤ b.size → b ≡ longest s
    unfolding longest two_or_more
    some l = rw (← found) (simp (le-ltb _ _ l))
