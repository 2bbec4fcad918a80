-- A value that is not refused has none of the faults 11 to 14; nor has a text, whose type is under the rule of texts.
use Rattle.std.specs.Prelude.{ℕ, List, Bool, eqb}
use Rattle.std.proofs.Math.Bool.{true, false}
use Rattle.std.proofs.Math.Path.{◌≡◌, refl}
use Rattle.std.proofs.Common.{arith, eqb-true}
use Rattle.base.specs.Choice.{pick}
use Rattle.registry.specs.Rows.{rule_number, rule_of}
use Rattle.registry.specs.Fault.{fault}
use Rattle.registry.specs.SaidLaws.{rule_one}
use Rattle.registry.specs.declared.Row.{Row}
use Rattle.registry.specs.declared.Rule.{Rule}
use Rattle.registry.specs.declared.Rule.TheVariants.{Text}
use Rattle.write_typed.specs.Typed.{refusal, is_rule, text_refusal}

pub no_fault : (rows : List Row) (k : ℕ) (v : List ℕ) → refusal rows k v ≡ 0 → fault rows k v ≡ 0
unfolding refusal
no_fault rows k v e = go (eqb (fault rows k v) 0) refl e
  where
    go : (b : Bool) → eqb (fault rows k v) 0 ≡ b → ◌≡◌ {A = ℕ} (pick b 0 23) 0 → fault rows k v ≡ 0
    go true p f = eqb-true (fault rows k v) 0 p
    go false p f = absurd (omega arith)

pub is_rule_lem : (q p : Rule) → is_rule q p ≡ true → q ≡ p
unfolding is_rule
is_rule_lem q p e = rule_one (eqb-true (rule_number q) (rule_number p) e)

module _ (rows : List Row) (k : ℕ) (v : List ℕ) (e : text_refusal rows k v ≡ 0) where
  text_taken : (is_rule (rule_of rows k) Text ≡ true) × (refusal rows k v ≡ 0)
  unfolding text_refusal
  text_taken = go (is_rule (rule_of rows k) Text) refl e
    where
      go : (b : Bool) → is_rule (rule_of rows k) Text ≡ b → ◌≡◌ {A = ℕ} (pick b (refusal rows k v) 23) 0 → (is_rule (rule_of rows k) Text ≡ true) × (refusal rows k v ≡ 0)
      go true p f = (p, f)
      go false p f = absurd (omega arith)

  pub text_rule : rule_of rows k ≡ Text
  text_rule = is_rule_lem (rule_of rows k) Text text_taken.0

  pub text_right : fault rows k v ≡ 0
  text_right = no_fault rows k v text_taken.1
