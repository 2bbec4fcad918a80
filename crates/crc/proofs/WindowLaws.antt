-- A window of four places in two lists that differ only there.
use Rattle.std.specs.Prelude.{◌≡◌, ◌⊎◌, List, ◌++◌, ℕ, ◌+◌, ◌-◌, ◌≤◌, ◌<◌, min, length, get_or, take, drop}
use Rattle.std.proofs.Common.{sym, ap, ◌∙◌, inl, inr, append_assoc, arith, length-take, length-drop, take-append-drop, ext_get_or, get_or-take, get_or-drop}

-- a list in three parts: before the window, the window, behind it
pub parts : (s : List ℕ) (k : ℕ) → take k s ++ take 4 (drop k s) ++ drop 4 (drop k s) ≡ s
parts s k =
    append_assoc (take k s) (take 4 (drop k s)) (drop 4 (drop k s))
    ∙ ap (λ (l : List ℕ). take k s ++ l) (take-append-drop 4 (drop k s))
    ∙ take-append-drop k s

-- the window is k .. k + 3
module _ (xs ys : List ℕ) (k : ℕ) (e : length xs ≡ length ys) (same : (i : ℕ) → (i < k) ⊎ (k + 4 ≤ i) → get_or xs i 0 ≡ get_or ys i 0) where
  pub fronts : take k xs ≡ take k ys
  fronts = ext_get_or 0 (take k xs) (take k ys) (length-take k xs ∙ ap (min k) e ∙ sym (length-take k ys)) at
    where
      at : (i : ℕ) → i < length (take k xs) → get_or (take k xs) i 0 ≡ get_or (take k ys) i 0
      at i h =
          let l : i < k = omega (arith, length-take k xs) in
          get_or-take k xs i 0 l ∙ same i (inl l) ∙ sym (get_or-take k ys i 0 l)

  pub backs : drop 4 (drop k xs) ≡ drop 4 (drop k ys)
  backs =
      ext_get_or 0 (drop 4 (drop k xs)) (drop 4 (drop k ys)) (simp length-drop (ap (λ (n : ℕ). n - k - 4) e))
      (λ i h. place xs i ∙ same (k + (4 + i)) (inr (omega arith)) ∙ sym (place ys i))
    where
      place : (s : List ℕ) (i : ℕ) → get_or (drop 4 (drop k s)) i 0 ≡ get_or s (k + (4 + i)) 0
      place s i = get_or-drop 4 (drop k s) i 0 ∙ get_or-drop k s (4 + i) 0
