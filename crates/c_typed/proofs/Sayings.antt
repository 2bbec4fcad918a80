-- What the call returns, case by case.
use Rattle.std.specs.Prelude.{ℕ, ◌-◌, List, [], Bool, true, false, ◌≡◌, refl, length, replicate, eqb, Result, Ok, Err}
use Rattle.std.proofs.Common.{sym, ap, ap₂, ◌∙◌, length-drop}
use Rattle.base.specs.Choice.{pick}
use Rattle.wire.specs.Refusal.{by}
use Rattle.wire.specs.declared.refusal.Refusal.{Refusal}
use Rattle.wire.specs.declared.transaction_id.TransactionId.{TransactionId}
use Rattle.net.specs.Net.{family_number}
use Rattle.net.specs.declared.SocketAddr.{SocketAddr}
use Rattle.registry.specs.Rows.{rfc5389, rule_of}
use Rattle.registry.specs.Fault.{fault}
use Rattle.registry.specs.declared.ErrorCode.{ErrorCode}
use Rattle.registry.specs.declared.Rule.{Rule}
use Rattle.registry.specs.declared.Rule.TheVariants as rule
use Rattle.read_typed.specs.Typed.{value_said, typed_said, read_of, typed_of, start_by, part_at, part_by, part_of}
use Rattle.read_typed.specs.declared.Value.{Value}
use Rattle.read_typed.specs.declared.Value.TheVariants.{Address, Code, Plain}
use Rattle.c_typed.specs.Typed.{typed_out, typed_told}

-- where the part starts, and its size, of what a value of n bytes says
abbrev start_in : Result Value Refusal → ℕ
start_in (Ok (Address a)) = 0
start_in (Ok (Code e)) = 4
start_in (Ok Plain) = 0
start_in (Err r) = 0

abbrev size_in : Result Value Refusal → ℕ → ℕ
size_in (Ok (Address a)) n = 0
size_in (Ok (Code e)) n = n - 4
size_in (Ok Plain) n = n
size_in (Err r) n = 0

parts_by : (b : Bool) (q : Rule) (v : List ℕ) (id : TransactionId) (r : Refusal)
    → (start_in (pick b (Ok (read_of q v id)) (Err r)) ≡ pick b (start_by q) 0)
    × (size_in (pick b (Ok (read_of q v id)) (Err r)) (length v) ≡ length (pick b (part_by q v) []))
unfolding read_of start_by part_by
parts_by true rule.Address v id r = (refl, refl)
parts_by true rule.XorAddress v id r = (refl, refl)
parts_by true rule.Code v id r = (refl, sym (length-drop 4 v))
parts_by true rule.Text v id r = (refl, refl)
parts_by true rule.Types v id r = (refl, refl)
parts_by true rule.Plain v id r = (refl, refl)
parts_by false q v id r = (refl, refl)

parts : (k : ℕ) (v : List ℕ) (id : TransactionId)
    → (start_in (typed_of rfc5389 k v id) ≡ part_at rfc5389 k v) × (size_in (typed_of rfc5389 k v id) (length v) ≡ length (part_of rfc5389 k v))
unfolding typed_of part_at part_of
parts k v id = parts_by (eqb (fault rfc5389 k v) 0) (rule_of rfc5389 k) v id (by (fault rfc5389 k v))

module _ (k : ℕ) (v : List ℕ) (id : TransactionId) {t : Result Value Refusal} (e : t ≡ typed_of rfc5389 k v id) where
  by_value : (x : Result Value Refusal) → t ≡ x
      → typed_out (typed_said x) (start_in x) (size_in x (length v)) ≡ typed_told (typed_of rfc5389 k v id) (part_at rfc5389 k v) (length (part_of rfc5389 k v))
  unfolding typed_told
  by_value x f =
      ap (λ (y : Result Value Refusal). typed_out (typed_said y) (start_in y) (size_in y (length v))) (sym f ∙ e)
      ∙ ap₂ (λ (a n : ℕ). typed_out (typed_said (typed_of rfc5389 k v id)) a n) (parts k v id).0 (parts k v id).1

  pub address : {x : Value} {a : SocketAddr} {n : ℕ} → t ≡ Ok x → x ≡ Address a → n ≡ family_number a.family
      → record { number = 0; family = n; port = a.port; code = 0; reserved = 0; ip = a.ip; start = 0; size = 0 }
      ≡ typed_told (typed_of rfc5389 k v id) (part_at rfc5389 k v) (length (part_of rfc5389 k v))
  unfolding typed_out typed_said value_said
  address {x} {a} g i h = rw h (by_value (Ok (Address a)) (g ∙ ap (λ (x : Value). Ok x) i))

  pub code : {x : Value} {c : ErrorCode} {n : ℕ} → t ≡ Ok x → x ≡ Code c → n ≡ length v - 4
      → record { number = 0; family = 0; port = 0; code = c.code; reserved = c.reserved; ip = replicate 16 0; start = 4; size = n }
      ≡ typed_told (typed_of rfc5389 k v id) (part_at rfc5389 k v) (length (part_of rfc5389 k v))
  unfolding typed_out typed_said value_said
  code {x} {c} g i h = rw h (by_value (Ok (Code c)) (g ∙ ap (λ (x : Value). Ok x) i))

  pub plain : {x : Value} → t ≡ Ok x → x ≡ Plain
      → record { number = 0; family = 0; port = 0; code = 0; reserved = 0; ip = replicate 16 0; start = 0; size = length v }
      ≡ typed_told (typed_of rfc5389 k v id) (part_at rfc5389 k v) (length (part_of rfc5389 k v))
  unfolding typed_out typed_said value_said
  plain g i = by_value (Ok Plain) (g ∙ ap (λ (x : Value). Ok x) i)

  pub faulty : {n : ℕ} → t ≡ Err (by n)
      → record { number = n; family = 0; port = 0; code = 0; reserved = 0; ip = replicate 16 0; start = 0; size = 0 }
      ≡ typed_told (typed_of rfc5389 k v id) (part_at rfc5389 k v) (length (part_of rfc5389 k v))
  unfolding typed_out typed_said value_said
  faulty {n} g = by_value (Err (by n)) g
