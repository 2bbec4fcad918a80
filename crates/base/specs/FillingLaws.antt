-- An array of n places filled from the front of a list: what a loop that fills it has done by place i.
use Rattle.std.specs.Prelude.{ℕ, suc, ◌+◌, ◌≤◌, ◌<◌, List, [], ◌∷◌, ◌++◌, ◌≡◌, refl, length, get_or, set, take, drop}
use Rattle.std.proofs.Common.{sym, ap, ap₂, ◌∙◌, arith, add-one, length-set, length-drop, take-suc, take-suc-set, take_all, get_or-drop}

pub record Filling (s : List ℕ) (n : ℕ) (m : List ℕ) (i : ℕ) : Type 0 where
  pub size : length m ≡ n
  pub within : i ≤ n
  pub so_far : take i m ≡ take i s

pub filling_start : (s m : List ℕ) (n : ℕ) → length m ≡ n → Filling s n m 0
filling_start s m n e = record { size = e; within = omega arith; so_far = refl }

pub filling_turn : {s m : List ℕ} {n i x : ℕ} → Filling s n m i → n ≤ length s → i < n → x ≡ get_or s i 0 → Filling s n (set m i x) (i + 1)
filling_turn {s} {m} {n} {i} {x} g long h e =
    let p : take (suc i) (set m i x) ≡ take (suc i) s =
    take-suc-set m i x (omega (arith, g.size)) ∙ ap₂ (λ (f : List ℕ) (y : ℕ). f ++ (y ∷ [])) g.so_far e ∙ sym (take-suc s i 0 (omega arith))
    in
    record { size = length-set m i x ∙ g.size; within = omega arith; so_far = rw add-one p }

-- from place p of a list on
pub filling_from : (d : List ℕ) (p : ℕ) {m : List ℕ} {n i : ℕ} → Filling (drop p d) n m i → p + n ≤ length d → i < n
    → Filling (drop p d) n (set m i (get_or d (p + i) 0)) (i + 1)
filling_from d p {m} {n} {i} g long h = filling_turn g (simp length-drop (omega arith)) h (sym (get_or-drop p d i 0))

pub filling_done : {s m : List ℕ} {n i : ℕ} → Filling s n m i → n ≤ i → m ≡ take n s
filling_done {s} {m} {n} {i} g h =
    let e : i ≡ n = omega (arith, g.within) in
    sym (take_all i m (omega (arith, g.size))) ∙ g.so_far ∙ ap (λ (k : ℕ). take k s) e
