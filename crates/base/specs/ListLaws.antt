-- Laws of lists beside the library's.
use Rattle.std.specs.Prelude.{ℕ, zero, suc, ◌-◌, List, [], ◌∷◌, ◌≡◌, take, drop}
use Rattle.std.proofs.Common.{sym, ap, arith}
use Rattle.std.proofs.Math.Seq.{take-nil}

pub drop-take : (m n : ℕ) (l : List ℕ) → drop m (take n l) ≡ take (n - m) (drop m l)
drop-take zero n l = let e : n - 0 ≡ n = omega arith in ap (λ (k : ℕ). take k l) (sym e)
drop-take (suc m) zero l = let e : 0 - suc m ≡ 0 = omega arith in ap (λ (k : ℕ). take k (drop (suc m) l)) (sym e)
drop-take (suc m) (suc n) [] = sym (take-nil (suc n - suc m))
drop-take (suc m) (suc n) (a ∷ l) = let e : suc n - suc m ≡ n - m = omega arith in rw e (drop-take m n l)
