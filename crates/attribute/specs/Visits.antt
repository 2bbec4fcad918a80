-- What the walk visits, and how much attributes take (docs/SCOPE.md, "An attribute", "The walk").
use Rattle.std.specs.Prelude.{ℕ, ◌+◌, ◌-◌, List, [], ◌∷◌, ◌≡◌, length, take, drop}
use Rattle.attribute.specs.Attribute.{padded, Attr, bytes_of}
use Rattle.attribute.specs.Walk.{walk_at}
use Rattle.attribute.specs.declared.Walk.TheVariants.{Attribute, End}

-- the attribute that a step finds
abbrev pub found : List ℕ → ℕ → ℕ → ℕ → ℕ → Attr
found d k v n x = record { kind = k; value = take n (drop v d); pad = take (x - v - n) (drop (v + n) d) }

-- following the walk from p to the end meets the attributes xs, each at its place, in order
pub data Visits (d : List ℕ) : ℕ → List (ℕ × Attr) → Type 0 where
  over : {p : ℕ} → walk_at d p ≡ End p → Visits d p []
  meets : {p k v n x : ℕ} {xs : List (ℕ × Attr)} → walk_at d p ≡ Attribute p k v n x → Visits d x xs → Visits d p ((p, found d k v n x) ∷ xs)

-- attributes one behind the other, the first at p
abbrev pub placed : ℕ → List Attr → List (ℕ × Attr)
placed p [] = []
placed p (a ∷ xs) = (p, a) ∷ placed (p + length (bytes_of a)) xs

-- 4 plus the padded size, summed
abbrev pub sizes : List Attr → ℕ
sizes [] = 0
sizes (a ∷ xs) = 4 + padded (length a.value) + sizes xs
