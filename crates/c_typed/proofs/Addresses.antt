-- What the append of an address returns and leaves in the buffer, case by case.
use Rattle.std.specs.Prelude.{ℕ, List, ◌≡◌, Result}
use Rattle.std.proofs.Common.{sym, ap, ap₂, ◌∙◌, arith, ne_eqb}
use Rattle.wire.specs.declared.refusal.Refusal.{Refusal}
use Rattle.attribute.specs.Attribute.{Attr}
use Rattle.net.specs.Net.{family_number}
use Rattle.net.specs.declared.Family.{Family}
use Rattle.net.specs.declared.Family.TheVariants.{Ipv4, Ipv6}
use Rattle.registry.specs.Rows.{rfc5389, rule_of}
use Rattle.write_raw.specs.Append.{answer, appended}
use Rattle.write_raw.specs.AppendLaws.{answer_wrong, appended_wrong}
use Rattle.write_address.specs.Address.{address_refusal, address_attr}
use Rattle.c_wire.specs.XorForm.{addr}
use Rattle.c_wire.specs.declared.Address as c
use Rattle.c_write.specs.Written.{told}
use Rattle.c_write.specs.declared.Written.{Written}
use Rattle.c_typed.specs.Given.{refusal_of, attr_of}

module _ (d : List ℕ) (k : ℕ) (a : c.Address) where
  same : (f : Family) → a.family ≡ family_number f
      → (address_refusal (rule_of rfc5389 k) ≡ refusal_of k a) × (address_attr rfc5389 d k (addr f a) ≡ attr_of d k a)
  unfolding refusal_of attr_of
  same Ipv4 e = (rw e, rw e)
  same Ipv6 e = (rw e, rw e)

  -- of a family
  module _ (f : Family) (e : a.family ≡ family_number f) where
    pub tells : {w : Result ℕ Refusal} {r : Written} → w ≡ answer d (address_refusal (rule_of rfc5389 k)) (address_attr rfc5389 d k (addr f a)) → r ≡ told w
        → r ≡ told (answer d (refusal_of k a) (attr_of d k a))
    tells g h = h ∙ ap told (g ∙ ap₂ (answer d) (same f e).0 (same f e).1)

    pub keeps : {b : List ℕ} → b ≡ appended d (address_refusal (rule_of rfc5389 k)) (address_attr rfc5389 d k (addr f a))
        → b ≡ appended d (refusal_of k a) (attr_of d k a)
    keeps g = g ∙ ap₂ (appended d) (same f e).0 (same f e).1

  -- of none
  module _ (n : a.family ≡ 1 → ⊥) (m : a.family ≡ 2 → ⊥) (x : Attr) where
    none : 23 ≡ refusal_of k a
    unfolding refusal_of
    none = rw (ne_eqb a.family 1 n, ne_eqb a.family 2 m)

    pub tells_none : {w : Result ℕ Refusal} {r : Written} → w ≡ answer d 23 x → r ≡ told w → r ≡ told (answer d (refusal_of k a) (attr_of d k a))
    tells_none g h =
        h ∙ ap told (g ∙ answer_wrong d 23 (λ z. omega arith) x (attr_of d k a) ∙ ap (λ (y : ℕ). answer d y (attr_of d k a)) none)

    pub keeps_none : {b : List ℕ} → b ≡ appended d 23 x → b ≡ appended d (refusal_of k a) (attr_of d k a)
    keeps_none g =
        g ∙ appended_wrong d 23 (λ z. omega arith) x ∙ sym (appended_wrong d 23 (λ z. omega arith) (attr_of d k a))
        ∙ ap (λ (y : ℕ). appended d y (attr_of d k a)) none
