-- The bytes of the values, and what the call returns and leaves in the buffer.
use Rattle.std.specs.Prelude.{ℕ, suc, ◌+◌, ◌≤◌, List, ◌∷◌, ◌++◌, Bool, true, false, ◌≡◌, refl, take, Result, Option}
use Rattle.std.proofs.Common.{sym, ap, ap₂, ◌∙◌, arith}
use Rattle.base.specs.Choice.{pick}
use Rattle.big_endian.specs.Numbers.{two}
use Rattle.wire.specs.declared.refusal.Refusal.{Refusal}
use Rattle.wire.specs.declared.transaction_id.TransactionId.{TransactionId}
use Rattle.net.specs.Net.{family_number, ip_size, addr_xor, address_value}
use Rattle.net.specs.declared.Family.{Family}
use Rattle.net.specs.declared.SocketAddr.{SocketAddr}
use Rattle.registry.specs.Rows.{rule_number, rfc5389, look, rule_in, rule_of}
use Rattle.registry.specs.AddressLaws as laws
use Rattle.registry.specs.declared.Row.{Row}
use Rattle.registry.specs.declared.Rule.{Rule}
use Rattle.registry.specs.declared.Rule.TheVariants.{Address, XorAddress}
use Rattle.write_raw.specs.Append.{answer, appended}
use Rattle.write_typed.specs.Typed.{is_rule, typed}
use Rattle.write_typed.proofs.Rules.{this_rule, another_rule}
use Rattle.write_address.specs.Address.{address_refusal, given, id_given, address_attr}

-- what is wrong with a rule, and the form of an address under it
module _ (q : Rule) where
  pub plain_rule : q ≡ Address → 0 ≡ address_refusal q
  unfolding address_refusal
  plain_rule e = rw (this_rule q Address e)

  pub xor_rule : q ≡ XorAddress → 0 ≡ address_refusal q
  unfolding address_refusal is_rule rule_number
  xor_rule e = rw e

  pub no_address : (q ≡ Address → ⊥) → (q ≡ XorAddress → ⊥) → 23 ≡ address_refusal q
  unfolding address_refusal
  no_address s t = rw (another_rule q Address s, another_rule q XorAddress t)

  module _ (a : SocketAddr) (id : TransactionId) where
    pub plain_form : (q ≡ XorAddress → ⊥) → a ≡ given q a id
    unfolding given
    plain_form t = rw (another_rule q XorAddress t)

    pub xor_form : {r : SocketAddr} → q ≡ XorAddress → r ≡ addr_xor a id → r ≡ given q a id
    unfolding given
    xor_form e f = rw (this_rule q XorAddress e) f

-- those in front, over the size of the IP
front : (f p n : ℕ) (ip : List ℕ) → take (4 + n) (0 ∷ f ∷ two p ++ ip) ≡ 0 ∷ f ∷ two p ++ take n ip
front f p n ip = let e : 4 + n ≡ suc (suc (suc (suc n))) = omega arith in ap (λ (i : ℕ). take i (0 ∷ f ∷ two p ++ ip)) e

-- the XOR form is of the same family
same_family : (q : Rule) (a : SocketAddr) (id : TransactionId) → (given q a id).family ≡ a.family
unfolding given addr_xor
same_family q a id = go (is_rule q XorAddress)
  where
    go : (b : Bool) → (pick b (addr_xor a id) a).family ≡ a.family
    go true = refl
    go false = refl

pub form_bytes : (q : Rule) (addr : SocketAddr) (id : TransactionId) {a : SocketAddr} {f : ℕ} {v : List ℕ} → a ≡ given q addr id
    → f ≡ family_number a.family → v ≡ 0 ∷ f ∷ two a.port ++ a.ip → take (4 + ip_size addr.family) v ≡ address_value (given q addr id)
unfolding address_value
form_bytes q addr id {a} {f} ae fe ve =
    let s : addr.family ≡ a.family = sym (ap (λ (x : SocketAddr). x.family) ae ∙ same_family q addr id) in
    ap₂ {C = List ℕ} (λ x y. take (4 + ip_size x) y) s (ve ∙ ap (λ (y : ℕ). 0 ∷ y ∷ two a.port ++ a.ip) fe)
    ∙ front (family_number a.family) a.port (ip_size a.family) a.ip ∙ ap address_value ae

pub ip_small : (f : Family) {n : ℕ} → n ≡ ip_size f → n ≤ 16
ip_small f e = omega (arith, laws.ip_small f)

-- the rule of a type, as it is looked up, and the front's ID
module _ (d : List ℕ) (k : ℕ) {x : Option Row} {q : Rule} {id : TransactionId} (xe : x ≡ look rfc5389 k) (qe : q ≡ rule_in x) (ie : id ≡ id_given d) where
  rule : q ≡ rule_of rfc5389 k
  rule = qe ∙ ap rule_in xe

  -- what is wrong, the bytes and how many of them go
  module _ (addr : SocketAddr) (v : List ℕ) {w n : ℕ} (we : w ≡ address_refusal q)
      (ve : take (4 + ip_size addr.family) v ≡ address_value (given q addr id)) (ne : n ≡ ip_size addr.family) where
    wrong : w ≡ address_refusal (rule_of rfc5389 k)
    wrong = we ∙ ap address_refusal rule

    attribute : typed k (take (4 + n) v) ≡ address_attr rfc5389 d k addr
    unfolding address_attr
    attribute =
        ap (typed k)
        (ap (λ (i : ℕ). take (4 + i) v) ne ∙ ve ∙ ap₂ (λ (p : Rule) (y : TransactionId). address_value (given p addr y)) rule ie)

    pub address_answer : {r : Result ℕ Refusal} → r ≡ answer d w (typed k (take (4 + n) v))
        → r ≡ answer d (address_refusal (rule_of rfc5389 k)) (address_attr rfc5389 d k addr)
    address_answer p = p ∙ ap₂ (answer d) wrong attribute

    pub address_buffer : {b : List ℕ} → b ≡ appended d w (typed k (take (4 + n) v))
        → b ≡ appended d (address_refusal (rule_of rfc5389 k)) (address_attr rfc5389 d k addr)
    address_buffer p = p ∙ ap₂ (appended d) wrong attribute
