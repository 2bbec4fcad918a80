use mathlib.Core.Logic.{⊎_elim}
use Rattle.read_message.proofs.Fronts.{elsewhere, stays, goes_on}
use Rattle.read_message.proofs.past.Goals as goal

pub returns-then-front-at : goal.returns-then-front-at
returns-then-front-at c = ⊎_elim (λ n. elsewhere _ _ _ _ n) (λ e. stays _ _ _ _ e.0 e.1) c.then-front-at.either

pub returns : goal.returns
returns c = search (goes_on)
