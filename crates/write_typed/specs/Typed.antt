-- Typed append (docs/SCOPE.md, "Writing: append"): the rules for the value by its type, and padding of zeros.
use Rattle.std.specs.Prelude.{ℕ, ◌-◌, List, Bool, length, replicate, eqb}
use Rattle.base.specs.Choice.{pick}
use Rattle.attribute.specs.Attribute.{padded, Attr}
use Rattle.registry.specs.Rows.{rule_number, rule_of}
use Rattle.registry.specs.Fault.{fault}
use Rattle.registry.specs.declared.Row.{Row}
use Rattle.registry.specs.declared.Rule.{Rule}
use Rattle.registry.specs.declared.Rule.TheVariants.{Text}
use Rattle.write_raw.specs.Append.{attr}

-- a value of a type, padded with zeros
unfoldable pub typed : ℕ → List ℕ → Attr
typed k v = attr k v (replicate (padded (length v) - length v) 0)

-- whether a rule is this one
unfoldable pub is_rule : Rule → Rule → Bool
is_rule q p = eqb (rule_number q) (rule_number p)

-- 23: the value breaks the list of types or its further rule, 11 to 14; 0: it doesn't
unfoldable pub refusal : List Row → ℕ → List ℕ → ℕ
refusal rows k v = pick (eqb (fault rows k v) 0) 0 23

-- the same of a text: a type with another rule is no text's
unfoldable pub text_refusal : List Row → ℕ → List ℕ → ℕ
text_refusal rows k v = pick (is_rule (rule_of rows k) Text) (refusal rows k v) 23
