-- What the calls return, case by case.
use Rattle.std.specs.Prelude.{ℕ, ◌+◌, ◌*◌, ◌-◌, ◌/◌, ◌%◌, ◌≤◌, ◌<◌, List, [], ◌≡◌, length, get_or, take, drop, replicate, Option, Result, Ok, Err}
use Rattle.std.proofs.Common.{sym, ap, ◌∙◌, arith, eq-eqb, ne_eqb, length-drop, drop_of_length-le, take_all}
use Rattle.base.specs.Laid.{laid}
use Rattle.big_endian.specs.Numbers.{be16}
use Rattle.buffers.specs.Put.{fits_at, put}
use Rattle.wire.specs.Refusal.{by, refused_by}
use Rattle.wire.proofs.RefusalLaws.{Refuses, refuses, passes}
use Rattle.wire.specs.declared.refusal.Refusal.{Refusal}
use Rattle.wire.specs.declared.transaction_id.TransactionId.{TransactionId}
use Rattle.net.specs.Net.{addr_xor}
use Rattle.net.specs.declared.Family.{Family}
use Rattle.net.specs.declared.SocketAddr.{SocketAddr}
use Rattle.registry.specs.Rows.{rfc5389, look, rule_in}
use Rattle.registry.specs.Fault.{entry_fault, fault}
use Rattle.registry.specs.ErrorCode.{code_of}
use Rattle.registry.specs.declared.ErrorCode.{ErrorCode}
use Rattle.registry.specs.declared.Row.{Row}
use Rattle.registry.specs.declared.Rule.{Rule}
use Rattle.registry.specs.declared.Rule.TheVariants as rule
use Rattle.read_typed.specs.declared.Value.{Value}
use Rattle.read_typed.specs.declared.Value.TheVariants.{Address, Code, Plain}
use Rattle.read_typed.specs.Typed.{family_numbered, ip_of, address_of, read_of, typed_of}

pub fields : (v : List ℕ) {b p : ℕ} {f : Family} {i : List ℕ} → b ≡ get_or v 1 0 → f ≡ family_numbered b → p ≡ be16 v 2 → i ≡ ip_of v
    → record { family = f; port = p; ip = i } ≡ address_of v
unfolding address_of
fields v e g h k = cc

pub code_fields : (v : List ℕ) {a b c d : ℕ} → a ≡ get_or v 0 0 → b ≡ get_or v 1 0 → c ≡ get_or v 2 0 → d ≡ get_or v 3 0
    → record { code = c % 8 * 100 + d; reserved = a * 8192 + b * 32 + c / 8 } ≡ code_of v
unfolding code_of
code_fields v e g h k = cc

pub no_ip : (v : List ℕ) → length v < 4 → replicate 16 0 ≡ ip_of v
unfolding ip_of put fits_at laid
no_ip v h = let e : drop 4 v ≡ [] = drop_of_length-le v {i = 4} (omega arith) in rw e

pub ip : (v : List ℕ) {m : List ℕ} → 4 ≤ length v → m ≡ put (replicate 16 0) 0 (take (length v - 4) (drop 4 v)) → m ≡ ip_of v
unfolding ip_of
ip v h e =
    let t : take (length v - 4) (drop 4 v) ≡ drop 4 v = take_all (length v - 4) (drop 4 v) (simp length-drop (omega arith)) in
    e ∙ ap (put (replicate 16 0) 0) t

module _ (k : ℕ) (v : List ℕ) {x : Option Row} (w : x ≡ look rfc5389 k) {j : Result Unit Refusal} (e : j ≡ refused_by (entry_fault x v)) where
  is_fault : entry_fault x v ≡ fault rfc5389 k v
  unfolding fault
  is_fault = ap (λ (y : Option Row). entry_fault y v) w

  pub faulty : (id : TransactionId) {r : Refusal} → j ≡ Err r → Err r ≡ typed_of rfc5389 k v id
  unfolding typed_of
  faulty id {r} g =
      let n : Refuses (entry_fault x v) r = refuses (entry_fault x v) (sym e ∙ g) in
      let m : fault rfc5389 k v ≡ 0 → ⊥ = λ z. n.some (is_fault ∙ z) in
      ap (λ (y : Refusal). Err y) (n.refusal ∙ ap by is_fault) ∙ simp (ne_eqb (fault rfc5389 k v) 0 m)

  pub read : (id : TransactionId) {u : Unit {0}} {q : Rule} {a : Value} → j ≡ Ok u → q ≡ rule_in x → a ≡ read_of q v id → Ok a ≡ typed_of rfc5389 k v id
  unfolding typed_of
  read id f g h =
      simp (eq-eqb (fault rfc5389 k v) 0 (sym is_fault ∙ passes (entry_fault x v) (sym e ∙ f)))
      (ap (λ (y : Value). Ok y) (h ∙ ap (λ (y : Rule). read_of y v id) (g ∙ ap rule_in w)))

-- the arms of the match on the rule
module _ (v : List ℕ) (id : TransactionId) {q : Rule} where
  pub address : {a : SocketAddr} → q ≡ rule.Address → a ≡ address_of v → Address a ≡ read_of q v id
  unfolding read_of
  address i m = rw i (ap (λ (y : SocketAddr). Address y) m)

  pub xor_address : {a b : SocketAddr} → q ≡ rule.XorAddress → a ≡ address_of v → b ≡ addr_xor a id → Address b ≡ read_of q v id
  unfolding read_of
  xor_address i m n = rw i (ap (λ (y : SocketAddr). Address y) (n ∙ ap (λ (y : SocketAddr). addr_xor y id) m))

  pub code : {y : ErrorCode} → q ≡ rule.Code → y ≡ code_of v → Code y ≡ read_of q v id
  unfolding read_of
  code i m = rw i (ap (λ (y : ErrorCode). Code y) m)

  pub text : q ≡ rule.Text → Plain ≡ read_of q v id
  unfolding read_of
  text i = rw i

  pub types : q ≡ rule.Types → Plain ≡ read_of q v id
  unfolding read_of
  types i = rw i

  pub plain : q ≡ rule.Plain → Plain ≡ read_of q v id
  unfolding read_of
  plain i = rw i
