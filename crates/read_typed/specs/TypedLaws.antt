-- What typed reading says, in numbers: just the fault of the value; and where there is one, nothing else.
use Rattle.std.specs.Prelude.{ℕ, List, [], Bool, true, false, ◌≡◌, refl, eqb, Result, Ok, Err}
use Rattle.std.proofs.Common.{sym, ◌∙◌, eqb-true, eq-eqb, ne_eqb}
use Rattle.base.specs.Choice.{pick}
use Rattle.wire.specs.declared.transaction_id.TransactionId.{TransactionId}
use Rattle.registry.specs.Rows.{rule_of}
use Rattle.registry.specs.Fault.{fault}
use Rattle.registry.specs.declared.Row.{Row}
use Rattle.registry.specs.declared.Rule.{Rule}
use Rattle.registry.specs.declared.Rule.TheVariants.{Address, XorAddress, Text, Code, Types, Plain}
use Rattle.wire.specs.Refusal.{by}
use Rattle.wire.specs.declared.refusal.Refusal.{Refusal}
use Rattle.read_typed.specs.declared.Value.{Value}
use Rattle.read_typed.specs.Typed.{read_of, typed_of, part_by, part_of, value_said, typed_said}

-- a value without fault is read
read_number : (q : Rule) (v : List ℕ) (id : TransactionId) → (value_said (read_of q v id)).number ≡ 0
unfolding read_of value_said
read_number Address v id = refl
read_number XorAddress v id = refl
read_number Text v id = refl
read_number Code v id = refl
read_number Types v id = refl
read_number Plain v id = refl

-- the number is the reader's own, over the list of types
pub typed_number : (rows : List Row) (k : ℕ) (v : List ℕ) (id : TransactionId) → (typed_said (typed_of rows k v id)).number ≡ fault rows k v
unfolding typed_of value_said typed_said
typed_number rows k v id = go (eqb (fault rows k v) 0) refl
  where
    go : (b : Bool) → eqb (fault rows k v) 0 ≡ b
        → (typed_said (pick {A = Result Value Refusal} b (Ok (read_of (rule_of rows k) v id)) (Err (by (fault rows k v))))).number ≡ fault rows k v
    go true e = read_number (rule_of rows k) v id ∙ sym (eqb-true (fault rows k v) 0 e)
    go false e = refl

-- of a value at fault the part is empty
pub no_part : (rows : List Row) (k : ℕ) (v : List ℕ) → (fault rows k v ≡ 0 → ⊥) → part_of rows k v ≡ []
unfolding part_of
no_part rows k v n = simp (ne_eqb (fault rows k v) 0 n)

-- and one without is read by the rule of its type
module _ (rows : List Row) (k : ℕ) (v : List ℕ) (z : fault rows k v ≡ 0) where
  pub fields : (id : TransactionId) → typed_of rows k v id ≡ Ok (read_of (rule_of rows k) v id)
  unfolding typed_of
  fields id = simp (eq-eqb (fault rows k v) 0 z)

  pub part : part_of rows k v ≡ part_by (rule_of rows k) v
  unfolding part_of
  part = simp (eq-eqb (fault rows k v) 0 z)
