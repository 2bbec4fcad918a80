-- Whether a rule is the one that was looked for: in its arm, and in the else.
use Rattle.std.specs.Prelude.{◌≡◌, true, false}
use Rattle.std.proofs.Common.{ap, eq-eqb, ne_eqb}
use Rattle.registry.specs.Rows.{rule_number}
use Rattle.registry.specs.SaidLaws.{rule_one}
use Rattle.registry.specs.declared.Rule.{Rule}
use Rattle.write_typed.specs.Typed.{is_rule}

module _ (q p : Rule) where
  pub this_rule : q ≡ p → is_rule q p ≡ true
  unfolding is_rule
  this_rule e = eq-eqb (rule_number q) (rule_number p) (ap rule_number e)

  pub another_rule : (q ≡ p → ⊥) → is_rule q p ≡ false
  unfolding is_rule
  another_rule t = ne_eqb (rule_number q) (rule_number p) (λ e. t (rule_one e))
