-- The cases of a step, with the facts that go with each.
use Rattle.std.specs.Prelude.{ℕ, ◌+◌, ◌-◌, ◌≤◌, ◌<◌, List, ◌≡◌, refl, length}
use Rattle.std.proofs.Common.{sym, subst, arith, lt-ltb, le-ltb, eq-eqb, ne_eqb}
use Rattle.std.proofs.Math.Decide.{dec_lt}
use Rattle.big_endian.specs.Numbers.{be16}
use Rattle.attribute.specs.Attribute.{padded}
use Rattle.attribute.specs.Walk.{step_at}
use Rattle.attribute.specs.declared.Walk.{Walk}
use Rattle.attribute.specs.declared.Walk.TheVariants.{Attribute, End, Cut}

pub data At (d : List ℕ) (p : ℕ) : Walk → Type 0 where
  beyond : length d < p → At d p (Cut p)
  ended : p ≡ length d → At d p (End p)
  short : p < length d → length d < p + 4 → At d p (Cut p)
  long : p + 4 ≤ length d → length d < p + 4 + padded (be16 d (p + 2)) → At d p (Cut p)
  attribute : p + 4 + padded (be16 d (p + 2)) ≤ length d
      → At d p (Attribute p (be16 d p) (p + 4) (be16 d (p + 2)) (p + 4 + padded (be16 d (p + 2))))

pub at_step : {d : List ℕ} {p : ℕ} {w : Walk} → At d p w → w ≡ step_at d p
unfolding step_at
at_step {d} {p} (beyond h) = simp (lt-ltb (length d) p h)
at_step {d} {p} (ended h) = simp (le-ltb (length d) p (omega arith), eq-eqb (length d - p) 0 (omega arith))
at_step {d} {p} (short h l) =
    simp (le-ltb (length d) p (omega arith), ne_eqb (length d - p) 0 (omega arith), lt-ltb (length d - p) 4 (omega arith))
at_step {d} {p} (long h l) =
    simp
    (le-ltb (length d) p (omega arith), ne_eqb (length d - p) 0 (omega arith), le-ltb (length d - p) 4 (omega arith), lt-ltb (length d - p - 4) (padded (be16 d (p + 2))) (omega arith))
at_step {d} {p} (attribute h) =
    simp
    (le-ltb (length d) p (omega arith), ne_eqb (length d - p) 0 (omega arith), le-ltb (length d - p) 4 (omega arith), le-ltb (length d - p - 4) (padded (be16 d (p + 2))) (omega arith))

as_step : {d : List ℕ} {p : ℕ} {w : Walk} → At d p w → At d p (step_at d p)
as_step {d} {p} x = subst (λ (w : Walk). At d p w) (at_step x) x

-- every place has its case
pub view : (d : List ℕ) (p : ℕ) → At d p (step_at d p)
view d p = far (dec_lt (length d) p)
  where
    past : p + 4 ≤ length d → Dec (length d < p + 4 + padded (be16 d (p + 2))) → At d p (step_at d p)
    past h (yes l) = as_step (long h l)
    past h (no l) = as_step (attribute (omega arith))

    head : p ≤ length d → Dec (length d < p + 4) → Dec (p < length d) → At d p (step_at d p)
    head h (no l) m = past (omega arith) (dec_lt _ _)
    head h (yes l) (yes m) = as_step (short m l)
    head h (yes l) (no m) = as_step (ended (omega arith))

    far : Dec (length d < p) → At d p (step_at d p)
    far (yes h) = as_step (beyond h)
    far (no h) = head (omega arith) (dec_lt _ _) (dec_lt _ _)

-- what is known of a step that code has taken
pub seen : {d : List ℕ} {p : ℕ} {w : Walk} → w ≡ step_at d p → At d p w
seen {d} {p} e = subst (λ (v : Walk). At d p v) (sym e) (view d p)

-- an attribute starts at the place asked, and its padding ends no later than the bytes
pub record Ahead (d : List ℕ) (p q v n x : ℕ) : Type 0 where
  pub here : q ≡ p
  pub value_at_lem : v ≡ p + 4
  pub size_is : n ≡ be16 d (p + 2)
  pub next_at : x ≡ p + 4 + padded n
  pub within : x ≤ length d

pub ahead : {d : List ℕ} {p q k v n x : ℕ} → At d p (Attribute q k v n x) → Ahead d p q v n x
ahead (attribute h) = record { here = refl; value_at_lem = refl; size_is = refl; next_at = refl; within = h }

pub kind_is : {d : List ℕ} {p q k v n x : ℕ} → At d p (Attribute q k v n x) → k ≡ be16 d p
kind_is (attribute h) = refl

-- a step that is no attribute
pub data Stops : Walk → Type 0 where
  at_end : {p : ℕ} → Stops (End p)
  at_cut : {p : ℕ} → Stops (Cut p)
