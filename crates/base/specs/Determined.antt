-- What it is for a contract to determine what its function gives: demand 1's 'two answers that it allows are equal'.
use Rattle.std.specs.Prelude.{ℕ, List, ◌≡◌}
use contract.Lifetimes.{Lfts}
use denote.Triple.Clauses.{AtExit}
use borrow.Fn.Kinds.{ParamKind, ResultKind, In, Out, Dens, res_t, ended_of}

-- Asked and Learnt are the generated readings of a contract; `of` is what counts of the arguments, and `gives` what counts of
-- the result and of the parameters at exit. Two calls whose arguments agree in that sense give the same.
abbrev pub Determines : {n : ℕ} (ps : List (ParamKind n)) (r : ResultKind n) {I A : Type 0} → In n ps → Out n ps r
    → ((κs : Lfts n) → Dens κs ps → I) → ((κs : Lfts n) → (res_t r κs).Denot → AtExit (ended_of n ps r) κs → A) → Type 0
Determines {n} ps r Asked Learnt of gives =
    (κs λs : Lfts n) (a : Dens κs ps) (b : Dens λs ps)
    (y : (res_t r κs).Denot) (z : (res_t r λs).Denot) (d : AtExit (ended_of n ps r) κs) (e : AtExit (ended_of n ps r) λs)
    → of κs a ≡ of λs b → Asked κs a → Asked λs b → Learnt κs a y d → Learnt λs b z e → gives κs y d ≡ gives λs z e
