-- The list is looked at row by row.
use Rattle.std.specs.Prelude.{ℕ, List, [], ◌∷◌, ◌≡◌, refl, eqb, find, Option, Some, None, option_map, option_copied}
use Rattle.std.proofs.Common.{ap, Bor}
use Rattle.base.specs.Choice.{pick}
use Rattle.registry.specs.Rows.{look}
use Rattle.registry.specs.declared.Row.{Row}

pub look_finds : (rs : List Row) (k : ℕ) → find (λ r. eqb r.kind k) rs ≡ look rs k
unfolding look
look_finds [] k = refl
look_finds (r ∷ rs) k = ap (λ t. pick (eqb r.kind k) (Some r) t) (look_finds rs k)

pub copied_is : (r : Option (Bor Row)) → option_copied r ≡ option_map (λ x. x.now) r
copied_is (Some x) = refl
copied_is None = refl
