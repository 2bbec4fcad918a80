-- A table as one text: of each row its number in two bytes, the size of its name in one, and the name; and the name that is found there.
use Rattle.std.specs.Prelude.{ℕ, zero, suc, ◌+◌, ◌*◌, ◌/◌, ◌%◌, ◌≤◌, List, [], ◌∷◌, ◌++◌, ◌≡◌, refl, length, take, drop, ltb, eqb}
use Rattle.std.proofs.Common.{ap, ◌∙◌, arith, le-ltb, length-append, take_at, drop_at}
use Rattle.base.specs.Choice.{pick}
use Rattle.names.specs.Names.{Row, find}

abbrev pub laid_out : List Row → List ℕ
laid_out [] = []
laid_out (r ∷ rs) = r.number / 256 ∷ r.number % 256 ∷ length r.name ∷ r.name ++ laid_out rs

-- the name of n in a text, behind k bytes that are passed
unfoldable pub name_from : ℕ → List ℕ → ℕ → List ℕ
name_from k [] n = []
name_from (suc k) (a ∷ s) n = name_from k s n
name_from zero (a ∷ []) n = []
name_from zero (a ∷ b ∷ []) n = []
name_from zero (a ∷ b ∷ c ∷ s) n = pick (ltb (length s) c) [] (pick (eqb (a * 256 + b) n) (take c s) (name_from c s n))

pub skip : (k : ℕ) (s : List ℕ) (n : ℕ) → name_from k s n ≡ name_from 0 (drop k s) n
unfolding name_from
skip zero s n = refl
skip (suc k) [] n = refl
skip (suc k) (a ∷ s) n = skip k s n

-- what is found in the text of a table is what the table has
pub found : (t : List Row) (n : ℕ) → name_from 0 (laid_out t) n ≡ find t n
unfolding name_from find
found [] n = refl
found (r ∷ rs) n =
    let m : r.number / 256 * 256 + r.number % 256 ≡ r.number = omega arith in
    let l : length r.name ≤ length (r.name ++ laid_out rs) = simp length-append (omega arith) in
    let x : take (length r.name) (r.name ++ laid_out rs) ≡ r.name = take_at r.name (laid_out rs) (length r.name) refl in
    let y : name_from (length r.name) (r.name ++ laid_out rs) n ≡ find rs n =
    skip (length r.name) (r.name ++ laid_out rs) n ∙ ap (λ (s : List ℕ). name_from 0 s n) (drop_at r.name (laid_out rs) (length r.name) refl)
    ∙ found rs n
    in
    simp (le-ltb (length (r.name ++ laid_out rs)) (length r.name) l)
    (rw (m, x) (ap (pick (eqb r.number n) r.name) y))
