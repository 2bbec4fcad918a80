-- A contract determines what its function gives where it says that this is a function of what is passed.
use Rattle.std.specs.Prelude.{ℕ, List, ◌≡◌}
use Rattle.std.proofs.Common.{sym, ap, ◌∙◌}
use contract.Lifetimes.{Lfts}
use denote.Triple.Clauses.{AtExit}
use borrow.Fn.Kinds.{ParamKind, ResultKind, In, Out, Dens, res_t, ended_of}
use Rattle.base.specs.Determined.{Determines}

pub by : {n : ℕ} (ps : List (ParamKind n)) (r : ResultKind n) {I A : Type 0} (Asked : In n ps) (Learnt : Out n ps r)
    (of : (κs : Lfts n) → Dens κs ps → I) (gives : (κs : Lfts n) → (res_t r κs).Denot → AtExit (ended_of n ps r) κs → A) (f : I → A)
    → ((κs : Lfts n) (a : Dens κs ps) (y : (res_t r κs).Denot) (d : AtExit (ended_of n ps r) κs)
    → Asked κs a → Learnt κs a y d → gives κs y d ≡ f (of κs a))
    → Determines ps r Asked Learnt of gives
by ps r Asked Learnt of gives f h κs λs a b y z d e g i j p q = h κs a y d i p ∙ ap f g ∙ sym (h λs b z e j q)
