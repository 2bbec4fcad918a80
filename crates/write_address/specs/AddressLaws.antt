-- In a list whose addresses all have the sizes of one, an address that is not refused has none of the faults 11 to 14.
use Rattle.std.specs.Prelude.{ℕ, List, [], ◌∷◌, Bool, true, false, ◌&&◌, ◌≡◌, refl, length, eqb, Option, Some}
use Rattle.std.proofs.lemmas.Bool.{false≢true}
use Rattle.std.proofs.Common.{ap₂, subst, arith, eqb-true}
use Rattle.base.specs.Choice.{pick}
use Rattle.net.specs.Net.{addr_xor, address_value}
use Rattle.net.specs.NetLaws.{length-xored}
use Rattle.net.specs.declared.SocketAddr.{SocketAddr}
use Rattle.wire.specs.declared.transaction_id.TransactionId.{TransactionId}
use Rattle.registry.specs.Rows.{row, rule_number, rfc5389, look, rule_in, rule_of}
use Rattle.registry.specs.Fault.{fault}
use Rattle.registry.specs.AddressLaws.{address_right, xor_address_right}
use Rattle.registry.specs.declared.Row.{Row}
use Rattle.registry.specs.declared.Rule.{Rule}
use Rattle.registry.specs.declared.Rule.TheVariants.{Plain, Address, XorAddress, Text, Code, Types}
use Rattle.write_typed.specs.Typed.{is_rule}
use Rattle.write_address.specs.Address.{is_address, address_refusal, given}

-- what holds of both rules of addresses holds of a rule that is not refused
pub by_rule : (P : Rule → Type 0) → P Address → P XorAddress → (q : Rule) → address_refusal q ≡ 0 → P q
unfolding address_refusal is_rule rule_number
by_rule P a x Address e = a
by_rule P a x XorAddress e = x
by_rule P a x Plain e = absurd (omega arith)
by_rule P a x Text e = absurd (omega arith)
by_rule P a x Code e = absurd (omega arith)
by_rule P a x Types e = absurd (omega arith)

-- an address has 8 to 20 bytes: in a row, in a list, in what the list says of a type
abbrev sized_row : Row → Bool
sized_row r = pick (is_address r.rule) (eqb r.least 8 && eqb r.greatest 20) true

abbrev sized : List Row → Bool
sized [] = true
sized (r ∷ rs) = sized_row r && sized rs

abbrev Sized : ℕ → Option Row → Type 0
Sized k x = address_refusal (rule_in x) ≡ 0 → x ≡ Some (row k 8 20 (rule_in x))

both : (b c : Bool) → (b && c) ≡ true → (b ≡ true) × (c ≡ true)
both true c e = (refl, e)
both false c e = absurd (false≢true e)

row_sized : (r : Row) → sized_row r ≡ true → Sized r.kind (Some r)
unfolding rule_in is_rule rule_number
row_sized r s e =
    let t : (eqb r.least 8 && eqb r.greatest 20) ≡ true =
    by_rule (λ q. pick (is_address q) (eqb r.least 8 && eqb r.greatest 20) true ≡ true → (eqb r.least 8 && eqb r.greatest 20) ≡ true)
    (λ x. x) (λ x. x) r.rule e s
    in
    ap₂ (λ (l g : ℕ). Some (row r.kind l g r.rule)) (eqb-true r.least 8 (both (eqb r.least 8) (eqb r.greatest 20) t).0)
    (eqb-true r.greatest 20 (both (eqb r.least 8) (eqb r.greatest 20) t).1)

either_sized : (k : ℕ) (b : Bool) {x y : Option Row} → (b ≡ true → Sized k x) → Sized k y → Sized k (pick b x y)
either_sized k true f g = f refl
either_sized k false f g = g

all_sized : (rows : List Row) (k : ℕ) → sized rows ≡ true → Sized k (look rows k)
unfolding look rule_in address_refusal is_rule rule_number
all_sized [] k s e = absurd (omega arith)
all_sized (r ∷ rs) k s e =
    let t : (sized_row r ≡ true) × (sized rs ≡ true) = both (sized_row r) (sized rs) s in
    either_sized k (eqb r.kind k) (λ p. subst (λ (n : ℕ). Sized n (Some r)) (eqb-true r.kind k p) (row_sized r t.0)) (all_sized rs k t.1) e

-- as it is in the list of RFC 5389
pub address_entry : (k : ℕ) → address_refusal (rule_of rfc5389 k) ≡ 0 → look rfc5389 k ≡ Some (row k 8 20 (rule_of rfc5389 k))
unfolding is_rule rule_number
address_entry k e = all_sized rfc5389 k refl e

pub address_passes : (k : ℕ) (a : SocketAddr) → length a.ip ≡ 16 → address_refusal (rule_of rfc5389 k) ≡ 0 → fault rfc5389 k (address_value a) ≡ 0
unfolding fault
address_passes k a h e = by_rule (λ q. look rfc5389 k ≡ Some (row k 8 20 q) → fault rfc5389 k (address_value a) ≡ 0)
    (λ l. rw l (address_right k a h)) (λ l. rw l (xor_address_right k a h)) (rule_of rfc5389 k) e (address_entry k e)

-- the form that a rule has on the wire is as long
pub given_long : (q : Rule) (a : SocketAddr) (id : TransactionId) → length a.ip ≡ 16 → length (given q a id).ip ≡ 16
unfolding given addr_xor
given_long q a id h = go (is_rule q XorAddress)
  where
    go : (b : Bool) → length (pick b (addr_xor a id) a).ip ≡ 16
    go true = rw length-xored h
    go false = h
