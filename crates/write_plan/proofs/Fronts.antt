-- The walk over the message at the front, and what `body_at` returns.
use Rattle.std.specs.Prelude.{ℕ, ◌+◌, ◌-◌, ◌≤◌, ◌<◌, List, [], ◌∷◌, Bool, true, false, ◌≡◌, length, take, drop, eqb, Result, Ok, Err}
use Rattle.std.proofs.Common.{sym, ap, ◌∙◌, arith, lt-ltb, le-ltb, eq-eqb, ne_eqb}
use Rattle.std.proofs.Math.Decide.{ℕ_discrete}
use Rattle.std.proofs.Math.ListN.{length-drop}
use Rattle.big_endian.specs.Numbers.{be16}
use Rattle.wire.specs.Refusal.{by}
use Rattle.wire.specs.declared.refusal.Refusal.{Refusal}
use Rattle.header.specs.Header.{front_fault, told, front_of}
use Rattle.header.specs.HeaderLaws.{Front, front_said, front_refused}
use Rattle.header.specs.declared.Header.{Header}
use Rattle.attribute.specs.Attribute.{rest, parse}
use Rattle.attribute.specs.Walk.{step_at}
use Rattle.attribute.specs.WalkLaws.{Ahead, ahead, Stops, seen}
use Rattle.attribute.proofs.BodyLaws.{body_seen, stopped}
use Rattle.attribute.specs.declared.Walk.{Walk}
use Rattle.attribute.specs.declared.Walk.TheVariants.{Attribute}
use Rattle.write_plan.specs.Plan.{none, covers, size_of, message_fault, body_at}

-- what is left over from a place on is what is left over
pub record Walking (m : List ℕ) (at : ℕ) : Type 0 where
  pub inside : at ≤ length m
  pub same : rest (parse 0 (drop at m)) ≡ rest (parse 0 (drop 20 m))

module _ {m : List ℕ} {at : ℕ} {w : Walk} (g : Walking m at) (e : w ≡ step_at m at) where
  module _ {q k v n x : ℕ} (i : w ≡ Attribute q k v n x) where
    on : Ahead m at q v n x
    on = ahead (seen (sym i ∙ e))

    pub turn : Walking m x
    turn = record { inside = on.within; same = sym (ap rest (body_seen m at (sym i ∙ e))) ∙ g.same }

    pub less : length m - x < length m - at
    less = omega (arith, on)

  left_over : (n : ℕ) (r : List ℕ) → length r ≡ n → eqb n 0 ≡ none r
  left_over n [] h = sym (ap (λ (i : ℕ). eqb i 0) h)
  left_over n (b ∷ r) h = ne_eqb n 0 (λ z. omega arith)

  -- where the walk stops, at the end of the message or before it
  pub ends : Stops w → eqb at (length m) ≡ covers m
  unfolding covers
  ends s =
      same_place at (length m) g.inside ∙ left_over (length m - at) (drop at m) (simp length-drop)
      ∙ ap none (ap rest (sym (stopped m at s e)) ∙ g.same)
    where
      same_place : (a b : ℕ) → a ≤ b → eqb a b ≡ eqb (b - a) 0
      same_place a b l = go (ℕ_discrete a b)
        where
          go : Dec (a ≡ b) → eqb a b ≡ eqb (b - a) 0
          go (yes h) = eq-eqb a b h ∙ sym (eq-eqb (b - a) 0 (omega arith))
          go (no h) = ne_eqb a b h ∙ sym (ne_eqb (b - a) 0 (λ z. h (omega arith)))

module _ (d : List ℕ) {w : Result Header Refusal} (e : w ≡ front_of d) where
  pub none_at : {r : Refusal} → w ≡ Err r → Err (by 21) ≡ body_at d
  unfolding message_fault body_at
  none_at f = simp (ne_eqb (front_fault d) 0 (front_refused d (sym e ∙ f)).some)

  module _ {h : Header} (f : w ≡ Ok h) where
    good : Front d h
    good = front_said d (sym e ∙ f)

    body : h.body ≡ be16 d 2
    unfolding told
    body = ap (λ (h : Header). h.body) good.header

    pub past_end : length d < 20 + h.body → Err (by 21) ≡ body_at d
    unfolding message_fault body_at
    past_end l = simp (eq-eqb (front_fault d) 0 good.fault, lt-ltb (length d) (size_of d) (omega (arith, body)))

    module _ (l : 20 + h.body ≤ length d) {q : Bool} (g : q ≡ covers (take (20 + h.body) d)) where
      front_covers : q ≡ covers (take (size_of d) d)
      front_covers = g ∙ ap (λ (x : ℕ). covers (take (20 + x) d)) body

      pub cut_at : q ≡ false → Err (by 21) ≡ body_at d
      unfolding message_fault body_at
      cut_at t = simp (eq-eqb (front_fault d) 0 good.fault, le-ltb (length d) (size_of d) (omega (arith, body)), sym front_covers ∙ t)

      pub covered_at : q ≡ true → Ok h.body ≡ body_at d
      unfolding message_fault body_at
      covered_at t = rw body (simp (eq-eqb (front_fault d) 0 good.fault, le-ltb (length d) (size_of d) (omega (arith, body)), sym front_covers ∙ t))
