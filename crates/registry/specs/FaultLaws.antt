-- A value without fault passes the rule of its type, known or not.
use Rattle.std.specs.Prelude.{ℕ, List, Bool, true, false, ◌≡◌, refl, length, ltb, Option, Some, None}
use Rattle.std.proofs.Common.{arith}
use Rattle.base.specs.Choice.{pick}
use Rattle.registry.specs.Rows.{rule_in}
use Rattle.registry.specs.Fault.{rule_fault, entry_fault}
use Rattle.registry.specs.declared.Row.{Row}

pub rule_passes : (x : Option Row) (v : List ℕ) → entry_fault x v ≡ 0 → rule_fault (rule_in x) v ≡ 0
unfolding rule_in entry_fault rule_fault
rule_passes None v e = refl
rule_passes (Some r) v e = go (ltb (length v) r.least) (ltb r.greatest (length v)) e
  where
    go : (a b : Bool) → ◌≡◌ {A = ℕ} (pick a 11 (pick b 11 (rule_fault r.rule v))) 0 → rule_fault r.rule v ≡ 0
    go false false f = f
    go false true f = absurd (omega arith)
    go true b f = absurd (omega arith)
