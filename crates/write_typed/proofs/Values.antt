-- What the typed calls return and leave in the buffer.
use Rattle.std.specs.Prelude.{ℕ, ◌-◌, ◌%◌, List, [], ◌∷◌, ◌≡◌, length, take, Result, Ok, Err, Option}
use Rattle.std.proofs.Common.{sym, ap, ◌∙◌, arith, eq-eqb, ne_eqb}
use Rattle.std.proofs.lemmas.List.{take-replicate}
use Rattle.base.specs.Choice.{pick}
use Rattle.wire.specs.Refusal.{refused_by}
use Rattle.wire.proofs.RefusalLaws.{passes, refuses}
use Rattle.wire.specs.declared.refusal.Refusal.{Refusal}
use Rattle.attribute.specs.Attribute.{padded}
use Rattle.registry.specs.Rows.{look, rule_in, rfc5389}
use Rattle.registry.specs.Fault.{fault}
use Rattle.registry.specs.declared.Row.{Row}
use Rattle.registry.specs.declared.Rule.{Rule}
use Rattle.registry.specs.declared.Rule.TheVariants.{Text}
use Rattle.write_raw.specs.Append.{attr, answer, appended}
use Rattle.write_typed.specs.Typed.{typed, refusal, is_rule, text_refusal}
use Rattle.write_typed.proofs.Rules.{this_rule, another_rule}

module _ (k : ℕ) (v : List ℕ) {x : Result Unit Refusal} (e : x ≡ refused_by (fault rfc5389 k v)) where
  pub taken : {u : Unit} → x ≡ Ok u → 0 ≡ refusal rfc5389 k v
  unfolding refusal
  taken f = simp (eq-eqb (fault rfc5389 k v) 0 (passes (fault rfc5389 k v) (sym e ∙ f)))

  pub refused : {r : Refusal} → x ≡ Err r → 23 ≡ refusal rfc5389 k v
  unfolding refusal
  refused f = simp (ne_eqb (fault rfc5389 k v) 0 (refuses (fault rfc5389 k v) (sym e ∙ f)).some)

-- a text, by the rule of its type
module _ (k : ℕ) (v : List ℕ) {x : Option Row} {q : Rule} (e : x ≡ look rfc5389 k) (g : q ≡ rule_in x) where
  by_rule : {n : ℕ} → n ≡ pick (is_rule q Text) (refusal rfc5389 k v) 23 → n ≡ text_refusal rfc5389 k v
  unfolding text_refusal
  by_rule f = f ∙ ap (λ (y : Rule). pick (is_rule y Text) (refusal rfc5389 k v) 23) (g ∙ ap rule_in e)

  pub is_text : {n : ℕ} → q ≡ Text → n ≡ refusal rfc5389 k v → n ≡ text_refusal rfc5389 k v
  is_text f h = by_rule (rw (this_rule q Text f) h)

  pub no_text : (q ≡ Text → ⊥) → 23 ≡ text_refusal rfc5389 k v
  no_text t = by_rule (rw (another_rule q Text t))

-- three zeros
abbrev three : List ℕ
three = 0 ∷ 0 ∷ 0 ∷ []

module _ (d : List ℕ) (w k : ℕ) (v : List ℕ) where
  same : attr k v (take ((4 - length v % 4) % 4) three) ≡ typed k v
  unfolding typed
  same =
      let m : (4 - length v % 4) % 4 ≡ padded (length v) - length v = omega arith in
      ap (λ (q : List ℕ). attr k v q) (ap (λ (x : ℕ). take x three) m ∙ take-replicate (padded (length v) - length v) 3 0 (omega arith))

  pub value_answer : {r : Result ℕ Refusal} → r ≡ answer d w (attr k v (take ((4 - length v % 4) % 4) three)) → r ≡ answer d w (typed k v)
  value_answer e = e ∙ ap (answer d w) same

  pub value_buffer : {b : List ℕ} → b ≡ appended d w (attr k v (take ((4 - length v % 4) % 4) three)) → b ≡ appended d w (typed k v)
  value_buffer e = e ∙ ap (appended d w) same
