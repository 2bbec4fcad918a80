-- What bytes laid into a list come to, and the loop that lays them.
use Rattle.std.specs.Prelude.{ℕ, suc, ◌+◌, ◌≤◌, ◌<◌, List, [], ◌∷◌, ◌++◌, ◌≡◌, refl, length, get_or, set, take, drop}
use Rattle.std.proofs.Common.{sym, ap, ◌∙◌, arith, add-one, add-zero, drop_of_length-le, length-set, drop-cons}
use Rattle.std.proofs.lemmas.List.Edits.{sets, sets-eq}
use Rattle.std.proofs.Math.Seq.{length-sets}
use Rattle.base.specs.Laid.{laid}

-- where they fit: what stood before, the bytes, what stood behind
pub laid_is : (l : List ℕ) (i : ℕ) (s : List ℕ) → i + length s ≤ length l → laid l i s ≡ take i l ++ s ++ drop (i + length s) l
unfolding laid
laid_is l i s h = sets-eq s l i h

pub length-laid : (l : List ℕ) (i : ℕ) (s : List ℕ) → length (laid l i s) ≡ length l
unfolding laid
length-laid l i s = length-sets l i s

sets-append : (l : List ℕ) (i : ℕ) (u v : List ℕ) (j : ℕ) → j ≡ i + length u → sets (sets l i u) j v ≡ sets l i (u ++ v)
sets-append l i [] v j e = let q : j ≡ i = omega arith in ap (λ (k : ℕ). sets l k v) q
sets-append l i (a ∷ u) v j e = sets-append (set l i a) (suc i) u v j (omega arith)

-- one list, and then another behind it
pub laid-append : (l : List ℕ) (i : ℕ) (u v : List ℕ) (j : ℕ) → j ≡ i + length u → laid (laid l i u) j v ≡ laid l i (u ++ v)
unfolding laid
laid-append l i u v j e = sets-append l i u v j e

-- a loop that lays s has laid j bytes: laying what is left gives all of s laid
pub record Laying (l s : List ℕ) (at : ℕ) (m : List ℕ) (j : ℕ) : Type 0 where
  pub some : j ≤ length s
  pub size : length m ≡ length l
  pub left : laid m (at + j) (drop j s) ≡ laid l at s

pub laying_start : (l s : List ℕ) (at : ℕ) → Laying l s at l 0
laying_start l s at = record { some = omega arith; size = refl; left = ap (λ (k : ℕ). laid l k s) (add-zero at) }

pub laying_turn : {l s m : List ℕ} {at j : ℕ} → Laying l s at m j → j < length s → Laying l s at (set m (at + j) (get_or s j 0)) (j + 1)
unfolding laid
laying_turn {l} {s} {m} {at} {j} g h =
    let e : at + (j + 1) ≡ suc (at + j) = omega arith in
    record {
      some = omega arith;
      size = length-set m (at + j) (get_or s j 0) ∙ g.size;
      left = rw (e, add-one) (sym (ap (λ (k : List ℕ). sets m (at + j) k) (drop-cons s j 0 h)) ∙ g.left);
    }

pub laying_done : {l s m : List ℕ} {at j : ℕ} → Laying l s at m j → length s ≤ j → m ≡ laid l at s
unfolding laid
laying_done {l} {s} {m} {at} {j} g h =
    let e : drop j s ≡ [] = drop_of_length-le s {i = j} h in
    sym (ap (λ (k : List ℕ). sets m (at + j) k) e) ∙ g.left
