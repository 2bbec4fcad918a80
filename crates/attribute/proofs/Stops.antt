-- What the else of a `let .. else` knows of a step.
use Rattle.std.specs.Prelude.{ℕ, ◌≡◌, refl}
use Rattle.attribute.specs.WalkLaws.{Stops, at_end, at_cut}
use Rattle.attribute.specs.declared.Walk.{Walk}
use Rattle.attribute.specs.declared.Walk.TheVariants.{Attribute, End, Cut}

pub stops : (w : Walk) → ((p k v n x : ℕ) → w ≡ Attribute p k v n x → ⊥) → Stops w
stops (Attribute p k v n x) t = absurd (t p k v n x refl)
stops (End p) t = at_end
stops (Cut p) t = at_cut
