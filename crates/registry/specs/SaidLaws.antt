-- What an answer says tells it apart from every other of its kind.
use Rattle.std.specs.Prelude.{ℕ, zero, suc, ◌≡◌, refl, get_or, Option, Some, None}
use Rattle.std.proofs.Common.{sym, ap, ◌∙◌}
use Rattle.base.specs.Said.{Said}
use Rattle.base.specs.SaidLaws.{one_to_one}
use Rattle.registry.specs.Rows.{rule_number, entry_said}
use Rattle.registry.specs.declared.Rule.{Rule}
use Rattle.registry.specs.declared.Rule.TheVariants.{Plain, Address, XorAddress, Text, Code, Types}
use Rattle.registry.specs.declared.Row.{Row}

rule_numbered : ℕ → Rule
rule_numbered zero = Plain
rule_numbered (suc zero) = Address
rule_numbered (suc (suc zero)) = XorAddress
rule_numbered (suc (suc (suc zero))) = Text
rule_numbered (suc (suc (suc (suc zero)))) = Code
rule_numbered (suc (suc (suc (suc (suc n))))) = Types

numbered_back : (a : Rule) → rule_numbered (rule_number a) ≡ a
unfolding rule_number rule_numbered
numbered_back Plain = refl
numbered_back Address = refl
numbered_back XorAddress = refl
numbered_back Text = refl
numbered_back Code = refl
numbered_back Types = refl

pub rule_one : {a b : Rule} → rule_number a ≡ rule_number b → a ≡ b
rule_one {a} {b} e = sym (numbered_back a) ∙ ap rule_numbered e ∙ numbered_back b

entry_from : Said → Option Row
entry_from s = by s.kind
  where
    value : ℕ → ℕ
    value i = get_or s.values i 0

    by : ℕ → Option Row
    by zero = Some (record { kind = value 0; least = value 1; greatest = value 2; rule = rule_numbered (value 3) })
    by (suc k) = None

pub entry_one : {a b : Option Row} → entry_said a ≡ entry_said b → a ≡ b
unfolding entry_said entry_from
entry_one = one_to_one entry_said entry_from back
  where
    back : (a : Option Row) → entry_from (entry_said a) ≡ a
    back (Some r) = ap (λ (q : Rule). Some (record { kind = r.kind; least = r.least; greatest = r.greatest; rule = q })) (numbered_back r.rule)
    back None = refl
