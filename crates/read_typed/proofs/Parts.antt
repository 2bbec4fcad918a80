-- What `part_of` returns, case by case: the bytes, and where they lie.
use Rattle.std.specs.Prelude.{ℕ, ◌+◌, ◌-◌, ◌≤◌, List, [], true, false, ◌≡◌, refl, length, take, drop, Option, Result, is_err}
use Rattle.std.proofs.Common.{sym, ap, ◌∙◌, arith, eq-eqb, ne_eqb, length-drop, take_all}
use Rattle.wire.specs.Refusal.{refused_by}
use Rattle.wire.proofs.RefusalLaws.{fails, stands}
use Rattle.wire.specs.declared.refusal.Refusal.{Refusal}
use Rattle.registry.specs.Rows.{look, rfc5389, rule_in, rule_of}
use Rattle.registry.specs.ErrorCodeLaws.{passes}
use Rattle.registry.specs.Fault.{rule_fault, entry_fault, fault}
use Rattle.registry.specs.FaultLaws.{rule_passes}
use Rattle.registry.specs.declared.Row.{Row}
use Rattle.registry.specs.declared.Rule.{Rule}
use Rattle.registry.specs.declared.Rule.TheVariants.{Address, XorAddress, Text, Code, Types, Plain}
use Rattle.read_typed.specs.Typed.{part_by, part_of, start_by, part_at}

-- a value that passes the rule of a code has four bytes
four : (x : Option Row) (v : List ℕ) → rule_in x ≡ Code → entry_fault x v ≡ 0 → 4 ≤ length v
unfolding rule_fault
four x v h e = (passes v (ap (λ (q : Rule). rule_fault q v) (sym h) ∙ rule_passes x v e)).0

module _ (k : ℕ) (v : List ℕ) {x : Option Row} (w : x ≡ look rfc5389 k) {j : Result Unit Refusal} (i : j ≡ refused_by (entry_fault x v)) where
  e : entry_fault x v ≡ fault rfc5389 k v
  unfolding fault
  e = ap (λ (y : Option Row). entry_fault y v) w

  module _ (f : is_err j ≡ true) where
    n : entry_fault x v ≡ 0 → ⊥
    n = fails (entry_fault x v) (sym (ap is_err i) ∙ f)

    pub faulty : [] ≡ part_of rfc5389 k v
    unfolding part_of
    faulty = let m : fault rfc5389 k v ≡ 0 → ⊥ = λ z. n (e ∙ z) in simp (ne_eqb (fault rfc5389 k v) 0 m)

    pub faulty_at : (b o : ℕ) → ◌≡◌ {A = ℕ × ℕ} (b, 0 + o) (b, part_at rfc5389 k v + o)
    unfolding part_at
    faulty_at b o = let m : fault rfc5389 k v ≡ 0 → ⊥ = λ z. n (e ∙ z) in simp (ne_eqb (fault rfc5389 k v) 0 m)

  module _ (f : is_err j ≡ false) {q : Rule} (u : q ≡ rule_in x) where
    z : entry_fault x v ≡ 0
    z = stands (entry_fault x v) (sym (ap is_err i) ∙ f)

    g : q ≡ rule_of rfc5389 k
    g = u ∙ ap rule_in w

    by_rule : (r : Rule) → q ≡ r → part_by r v ≡ part_of rfc5389 k v
    unfolding part_of
    by_rule r h = simp (eq-eqb (fault rfc5389 k v) 0 (sym e ∙ z)) (ap (λ (x : Rule). part_by x v) (sym h ∙ g))

    at_rule : (r : Rule) (b o : ℕ) → q ≡ r → ◌≡◌ {A = ℕ × ℕ} (b, start_by r + o) (b, part_at rfc5389 k v + o)
    unfolding part_at
    at_rule r b o h = simp (eq-eqb (fault rfc5389 k v) 0 (sym e ∙ z)) (ap {B = ℕ × ℕ} (λ (x : Rule). (b, start_by x + o)) (sym h ∙ g))

    pub address : q ≡ Address → [] ≡ part_of rfc5389 k v
    unfolding part_by
    address h = by_rule Address h

    pub address_at : (b o : ℕ) → q ≡ Address → ◌≡◌ {A = ℕ × ℕ} (b, 0 + o) (b, part_at rfc5389 k v + o)
    unfolding start_by
    address_at b o h = at_rule Address b o h

    pub xor_address : q ≡ XorAddress → [] ≡ part_of rfc5389 k v
    unfolding part_by
    xor_address h = by_rule XorAddress h

    pub xor_address_at : (b o : ℕ) → q ≡ XorAddress → ◌≡◌ {A = ℕ × ℕ} (b, 0 + o) (b, part_at rfc5389 k v + o)
    unfolding start_by
    xor_address_at b o h = at_rule XorAddress b o h

    module _ (h : q ≡ Code) where
      pub room : 4 ≤ length v
      room = four x v (sym u ∙ h) z

      pub phrase : take (length v - 4) (drop 4 v) ≡ part_of rfc5389 k v
      unfolding part_by
      phrase = take_all (length v - 4) (drop 4 v) (simp length-drop (omega arith)) ∙ by_rule Code h

      pub phrase_at : (b o : ℕ) → ◌≡◌ {A = ℕ × ℕ} (b, 4 + o) (b, part_at rfc5389 k v + o)
      unfolding start_by
      phrase_at b o = at_rule Code b o h

    -- the value itself lies where it lies
    itself : (r : Rule) (p : ℕ × ℕ) → start_by r ≡ 0 → q ≡ r → p ≡ (p.0, part_at rfc5389 k v + p.1)
    itself r p i h =
        let m : p.1 ≡ start_by r + p.1 = omega (arith, i) in
        ap {B = ℕ × ℕ} (λ (y : ℕ). (p.0, y)) m ∙ at_rule r p.0 p.1 h

    pub text : q ≡ Text → v ≡ part_of rfc5389 k v
    unfolding part_by
    text h = by_rule Text h

    pub text_at : (p : ℕ × ℕ) → q ≡ Text → p ≡ (p.0, part_at rfc5389 k v + p.1)
    unfolding start_by
    text_at p h = itself Text p refl h

    pub types : q ≡ Types → v ≡ part_of rfc5389 k v
    unfolding part_by
    types h = by_rule Types h

    pub types_at : (p : ℕ × ℕ) → q ≡ Types → p ≡ (p.0, part_at rfc5389 k v + p.1)
    unfolding start_by
    types_at p h = itself Types p refl h

    pub plain : q ≡ Plain → v ≡ part_of rfc5389 k v
    unfolding part_by
    plain h = by_rule Plain h

    pub plain_at : (p : ℕ × ℕ) → q ≡ Plain → p ≡ (p.0, part_at rfc5389 k v + p.1)
    unfolding start_by
    plain_at p h = itself Plain p refl h
