-- The walk at a place (docs/SCOPE.md, "The walk").
use Rattle.std.specs.Prelude.{ℕ, ◌+◌, ◌-◌, List, [], ◌∷◌, length, ltb, eqb}
use Rattle.base.specs.Choice.{pick}
use Rattle.base.specs.Said.{Said, says}
use Rattle.big_endian.specs.Numbers.{be16}
use Rattle.header.specs.Header.{header_fault}
use Rattle.attribute.specs.Attribute.{padded}
use Rattle.attribute.specs.declared.Walk.{Walk}
use Rattle.attribute.specs.declared.Walk.TheVariants.{Attribute, End, Cut}

-- what an answer says: an attribute, with its place, its type, where its value starts, the size of that, and where the next one starts;
-- the end, with its place; the cut, with its place
unfoldable pub walk_said : Walk → Said
walk_said (Attribute p k v n x) = says 0 0 (p ∷ k ∷ v ∷ n ∷ x ∷ [])
walk_said (End p) = says 1 0 (p ∷ [])
walk_said (Cut p) = says 2 0 (p ∷ [])

-- beyond the end: the cut; at the end: the end; a header and a padded value that are there: the attribute; else the cut
unfoldable pub step_at : List ℕ → ℕ → Walk
step_at d p =
    pick (ltb (length d) p)
    (Cut p)
    (pick (eqb (length d - p) 0)
    (End p)
    (pick (ltb (length d - p) 4)
    (Cut p)
    (pick (ltb (length d - p - 4) (padded (be16 d (p + 2))))
    (Cut p)
    (Attribute p (be16 d p) (p + 4) (be16 d (p + 2)) (p + 4 + padded (be16 d (p + 2)))))))

-- in a datagram that isn't refused, from place 20 on; else the cut
unfoldable pub walk_at : List ℕ → ℕ → Walk
walk_at d p = pick (eqb (header_fault d) 0) (pick (ltb p 20) (Cut p) (step_at d p)) (Cut p)
