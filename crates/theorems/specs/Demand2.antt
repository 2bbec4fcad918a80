-- DEMAND 2, in the words of docs/SCOPE.md ("Writing again what was read", "Writing: append"): what is read as whole, written again with its
-- padding, is the same bytes; a message within the rules, written, is read back; the walk visits what was appended; typed values are read as
-- they were given, and an ERROR-CODE is written as it was read. What each shuts out:
--   a reader that refuses all                 `read_back`: a message that is right is read as whole
--   a reader that calls all whole             `written_again`: of 19 bytes, or of a body with a rest, it is false
--   a writer that changes nothing             `read_back`, and `appended_read` for an append
--   a walk of one attribute and then the end  `appended_read`, and `covers` and `visited` of Covers.antt
--   a made-up count                           `read_back`, and `count_told` of Covers.antt
--   reserved bits dropped, or displaced       `code_written_back`; displaced on both sides alike: P9 of Sheet.antt
--   an append that refuses every error code   `code_taken`, and `code_written_back`
--   a constant fingerprint                    `stretch` of Stretch.antt, which it makes false
use Rattle.std.specs.Prelude.{ℕ, ◌≤◌, ◌<◌, List, [], ◌∷◌, ◌++◌, true, ◌≡◌, refl, length, take, drop, Ok, Some}
use Rattle.std.proofs.Common.{ap, ◌∙◌, arith}
use Rattle.base.specs.Bytes.{Bytes}
use Rattle.utf8_spec.specs.Utf8.{is_utf8}
use Rattle.wire.specs.declared.transaction_id.TransactionId.{TransactionId}
use Rattle.net.specs.Net.{addr_xor, address_value, Sound}
use Rattle.net.specs.declared.SocketAddr.{SocketAddr}
use Rattle.attribute.specs.Attribute.{Attr}
use Rattle.attribute.specs.Visits.{Visits}
use Rattle.registry.specs.Rows.{rule_number, rfc5389, look, rule_in, rule_of, row}
use Rattle.registry.specs.ErrorCode.{code_of, code_value}
use Rattle.registry.specs.ErrorCodeLaws.{read_in_range, written_as_read, read_as_written, value_right}
use Rattle.registry.specs.Fault.{code_fault, rule_fault, fault}
use Rattle.registry.specs.FaultLaws.{rule_passes}
use Rattle.registry.specs.declared.ErrorCode.{ErrorCode}
use Rattle.registry.specs.declared.Row.{Row}
use Rattle.registry.specs.declared.Rule.{Rule}
use Rattle.registry.specs.declared.Rule.TheVariants as rule
use Rattle.read_message.specs.Reading.{reading_of, answer_of}
use Rattle.read_message.specs.Whole.{Whole}
use Rattle.read_message.proofs.WholeLaws.{told}
use Rattle.read_typed.specs.Typed.{read_of, typed_of, part_by, part_of}
use Rattle.read_typed.specs.TypedLaws.{fields, part}
use Rattle.read_typed.specs.WrittenLaws as written
use Rattle.read_typed.specs.declared.Value.{Value}
use Rattle.read_typed.specs.declared.Value.TheVariants.{Address, Code, Plain}
use Rattle.write_plan.specs.Plan.{size_of}
use Rattle.write_raw.specs.Append.{answer, appended}
use Rattle.write_raw.specs.AppendLaws.{total_goes}
use Rattle.write_typed.specs.Typed.{is_rule, typed, refusal, text_refusal}
use Rattle.write_typed.specs.TypedLaws.{no_fault, text_rule, text_right}
use Rattle.write_address.specs.Address.{address_refusal, given, address_attr, id_given}
use Rattle.write_address.specs.AddressLaws.{by_rule, address_entry, address_passes, given_long}
use Rattle.write_error_code.specs.ErrorCode.{code_refusal}
use Rattle.write_error_code.specs.ErrorCodeLaws.{by_value, in_range, code_right}
use Rattle.round_trip.specs.Message.{Message, bytes_of, message_of, Shaped, write, Right, whole_with}
use Rattle.round_trip.specs.Whole as whole
use Rattle.round_trip.specs.Appending as append

-- a whole datagram, written again by begin and a raw append for each of its attributes, is the same bytes, in any buffer with room for it
pub written_again : (rows : List Row) (d b : List ℕ) → Bytes d → Whole rows d → length d ≤ length b → take (length d) (write b (message_of d)) ≡ d
written_again rows d b h w room = whole.written_again rows d h (ap answer_of (told rows d w)) b room

-- a message that is right, written into such a buffer, is read as whole, with its class, method, ID and number of attributes
pub read_back : (rows : List Row) (b : List ℕ) (m : Message) → Right rows m → length (bytes_of m) ≤ length b
    → reading_of rows (take (length (bytes_of m)) (write b m)) ≡ whole_with m
read_back = whole.read_back

-- and any message within the rules is that message again, right or not; with `bijection` of round_trip this and `written_again` are one
pub message_back : (b : List ℕ) (m : Message) → Shaped m → length (bytes_of m) ≤ length b → message_of (take (length (bytes_of m)) (write b m)) ≡ m
message_back = whole.message_back

-- an attribute that an append puts behind a message: from place 20 the walk visits the earlier ones at their places, then the new one as it
-- was given, then the end
pub appended_read : (d : List ℕ) (f : ℕ) (a : Attr) {t : ℕ} → Bytes d → a.kind < 65536 → answer d f a ≡ Ok t
    → (xs : List (ℕ × Attr)) → Visits (take (size_of d) d) 20 xs → Visits (take t (appended d f a)) 20 (xs ++ ((size_of d, a) ∷ []))
appended_read = append.appended_read

-- the same of a typed append, and the value has none of the faults 11 to 14
pub record Typed (rows : List Row) (d : List ℕ) (f k : ℕ) (v : List ℕ) (t : ℕ) : Type 1 where
  pub visits : (xs : List (ℕ × Attr)) → Visits (take (size_of d) d) 20 xs → Visits (take t (appended d f (typed k v))) 20 (xs ++ ((size_of d, typed k v) ∷ []))
  pub passes : fault rows k v ≡ 0

module _ (d : List ℕ) (h : Bytes d) where
  typed_read : (rows : List Row) (f k : ℕ) (v : List ℕ) {t : ℕ} → k < 65536 → (f ≡ 0 → fault rows k v ≡ 0) → answer d f (typed k v) ≡ Ok t
      → Typed rows d f k v t
  unfolding typed
  typed_read rows f k v l p e = record { visits = appended_read d f (typed k v) h l e; passes = p (total_goes d f (typed k v) e).2.right }

  pub text_read : (rows : List Row) (k : ℕ) (v : List ℕ) {t : ℕ} → k < 65536 → answer d (text_refusal rows k v) (typed k v) ≡ Ok t
      → Typed rows d (text_refusal rows k v) k v t
  text_read rows k v l e = typed_read rows (text_refusal rows k v) k v l (text_right rows k v) e

  pub types_read : (v : List ℕ) {t : ℕ} → answer d (refusal rfc5389 0x000A v) (typed 0x000A v) ≡ Ok t → Typed rfc5389 d (refusal rfc5389 0x000A v) 0x000A v t
  types_read v e = typed_read rfc5389 (refusal rfc5389 0x000A v) 0x000A v (omega arith) (no_fault rfc5389 0x000A v) e

  pub code_read : (x : ErrorCode) (s : List ℕ) {t : ℕ} → answer d (code_refusal rfc5389 x s) (typed 0x0009 (code_value x s)) ≡ Ok t
      → Typed rfc5389 d (code_refusal rfc5389 x s) 0x0009 (code_value x s) t
  code_read x s e = typed_read rfc5389 (code_refusal rfc5389 x s) 0x0009 (code_value x s) (omega arith) (code_right rfc5389 x s) e

  pub address_read : (k : ℕ) (a : SocketAddr) {t : ℕ} → k < 65536 → length a.ip ≡ 16
      → answer d (address_refusal (rule_of rfc5389 k)) (address_attr rfc5389 d k a) ≡ Ok t
      → Typed rfc5389 d (address_refusal (rule_of rfc5389 k)) k (address_value (given (rule_of rfc5389 k) a (id_given d))) t
  unfolding address_attr
  address_read k a l h e =
      let g : SocketAddr = given (rule_of rfc5389 k) a (id_given d) in
      typed_read rfc5389 (address_refusal (rule_of rfc5389 k)) k (address_value g) l
      (address_passes k g (given_long (rule_of rfc5389 k) a (id_given d) h)) e

-- what a typed append takes, typed reading gives back: an address of every type that has the rule of one
pub address_back : (k : ℕ) (a : SocketAddr) (id : TransactionId) → address_refusal (rule_of rfc5389 k) ≡ 0 → Sound a
    → typed_of rfc5389 k (address_value (given (rule_of rfc5389 k) a id)) id ≡ Ok (Address a)
unfolding given is_rule rule_number
address_back k a id e s =
    by_rule (λ q. look rfc5389 k ≡ Some (row k 8 20 q) → typed_of rfc5389 k (address_value (given q a id)) id ≡ Ok (Address a))
    (written.plain_back rfc5389 k a id s) (written.xor_back rfc5389 k a id s) (rule_of rfc5389 k) e (address_entry k e)

-- a value that says no more than its bytes
plain_back : (q : Rule) (k : ℕ) (v : List ℕ) (id : TransactionId) → rule_of rfc5389 k ≡ q → read_of q v id ≡ Plain → part_by q v ≡ v
    → fault rfc5389 k v ≡ 0 → (typed_of rfc5389 k v id ≡ Ok Plain) × (part_of rfc5389 k v ≡ v)
plain_back q k v id e r p z =
    (fields rfc5389 k v z id ∙ ap (λ (x : Value). Ok x) (ap (λ (x : Rule). read_of x v id) e ∙ r), part rfc5389 k v z ∙ ap (λ (x : Rule). part_by x v) e ∙ p)

-- a text of every type that has their rule
pub text_back : (k : ℕ) (v : List ℕ) (id : TransactionId) → text_refusal rfc5389 k v ≡ 0
    → (typed_of rfc5389 k v id ≡ Ok Plain) × (part_of rfc5389 k v ≡ v)
unfolding read_of part_by
text_back k v id f = plain_back rule.Text k v id (text_rule rfc5389 k v f) refl refl (text_right rfc5389 k v f)

pub types_back : (v : List ℕ) (id : TransactionId) → refusal rfc5389 0x000A v ≡ 0
    → (typed_of rfc5389 0x000A v id ≡ Ok Plain) × (part_of rfc5389 0x000A v ≡ v)
unfolding read_of part_by look rule_in
types_back v id f = plain_back rule.Types 0x000A v id refl refl refl (no_fault rfc5389 0x000A v f)

-- and these are not about nothing: the four texts are judged by their values alone, and the three addresses are taken, XOR-MAPPED-ADDRESS
-- in its form and the others as they are
pub the_texts : (v : List ℕ) → (text_refusal rfc5389 0x0006 v ≡ refusal rfc5389 0x0006 v) × (text_refusal rfc5389 0x0014 v ≡ refusal rfc5389 0x0014 v)
    × (text_refusal rfc5389 0x0015 v ≡ refusal rfc5389 0x0015 v) × (text_refusal rfc5389 0x8022 v ≡ refusal rfc5389 0x8022 v)
unfolding text_refusal is_rule rule_number look rule_in
the_texts v = (refl, refl, refl, refl)

pub the_addresses : (a : SocketAddr) (id : TransactionId) → (address_refusal (rule_of rfc5389 0x0001) ≡ 0) × (given (rule_of rfc5389 0x0001) a id ≡ a)
    × (address_refusal (rule_of rfc5389 0x0020) ≡ 0) × (given (rule_of rfc5389 0x0020) a id ≡ addr_xor a id)
    × (address_refusal (rule_of rfc5389 0x8023) ≡ 0) × (given (rule_of rfc5389 0x8023) a id ≡ a)
unfolding address_refusal given is_rule rule_number look rule_in
the_addresses a id = (refl, refl, refl, refl, refl, refl)

-- an error code with its phrase
pub code_back : (e : ErrorCode) (s : List ℕ) (id : TransactionId) → code_refusal rfc5389 e s ≡ 0
    → (typed_of rfc5389 0x0009 (code_value e s) id ≡ Ok (Code e)) × (part_of rfc5389 0x0009 (code_value e s) ≡ s)
unfolding read_of part_by look rule_in code_value
code_back e s id z =
    let f : fault rfc5389 0x0009 (code_value e s) ≡ 0 = code_right rfc5389 e s z in
    let b : code_of (code_value e s) ≡ e = read_as_written e s (in_range rfc5389 e s z).1 in
    (fields rfc5389 0x0009 (code_value e s) f id ∙ ap (λ (x : ErrorCode). Ok (Code x)) b, part rfc5389 0x0009 (code_value e s) f)

-- of which every code from 300 to 699, every reserved number of 21 bits and every phrase within the rule is taken
pub code_taken : (e : ErrorCode) (s : List ℕ) → 300 ≤ e.code → e.code ≤ 699 → e.reserved ≤ 2097151 → length s ≤ 127 → is_utf8 s ≡ true
    → code_refusal rfc5389 e s ≡ 0
unfolding refusal fault look
code_taken e s l h r n t = by_value rfc5389 e s l h r ∙ simp (value_right 0x0009 e s l h n t)

-- and what typed reading gives of a value without fault, a typed append takes and writes as the same bytes
pub code_written_back : (v : List ℕ) (id : TransactionId) → Bytes v → fault rfc5389 0x0009 v ≡ 0
    → (typed_of rfc5389 0x0009 v id ≡ Ok (Code (code_of v))) × (code_refusal rfc5389 (code_of v) (part_of rfc5389 0x0009 v) ≡ 0)
    × (code_value (code_of v) (part_of rfc5389 0x0009 v) ≡ v)
unfolding fault look rule_in rule_fault read_of part_by refusal
code_written_back v id h z =
    let f : code_fault v ≡ 0 = rule_passes (look rfc5389 0x0009) v z in
    let p : part_of rfc5389 0x0009 v ≡ drop 4 v = part rfc5389 0x0009 v z in
    let same : code_value (code_of v) (part_of rfc5389 0x0009 v) ≡ v = ap (code_value (code_of v)) p ∙ written_as_read v h f in
    let (l, g, r) = read_in_range v h f in
    (fields rfc5389 0x0009 v z id, by_value rfc5389 (code_of v) (part_of rfc5389 0x0009 v) l g r ∙ ap (refusal rfc5389 0x0009) same ∙ simp z, same)
