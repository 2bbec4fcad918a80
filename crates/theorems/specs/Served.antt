-- What the reader lets through, typed reading takes: the value that a whole datagram serves for a type has none of the faults of that type.
use Rattle.std.specs.Prelude.{ℕ, ◌≤◌, List, Bool, true, false, ◌≡◌, refl, length, ltb}
use Rattle.std.proofs.Common.{◌∙◌, arith, ltb-false}
use Rattle.base.specs.Choice.{pick}
use Rattle.wire.specs.declared.transaction_id.TransactionId.{TransactionId}
use Rattle.attribute.specs.Attribute.{Attr}
use Rattle.utf8_spec.specs.Utf8.{is_utf8}
use Rattle.registry.specs.Rows.{look, rfc5389}
use Rattle.registry.specs.Fault.{rule_fault, entry_fault, fault}
use Rattle.registry.specs.declared.Row.{Row}
use Rattle.read_first.specs.First.{starts, first}
use Rattle.read_first.proofs.WholeLaws.{served}
use Rattle.read_typed.specs.Typed.{typed_said, typed_of}
use Rattle.read_typed.specs.TypedLaws.{typed_number}

-- over any list of types, for every type and ID
pub served_typed : (rows : List Row) (k : ℕ) (d : List ℕ) {p : ℕ} {a : Attr} (id : TransactionId) → first rows k d ≡ starts p a
    → (typed_said (typed_of rows k a.value id)).number ≡ 0
served_typed rows k d {p} {a} id e = typed_number rows k a.value id ∙ served rows k d e

-- so of the first REALM: it has at most 127 bytes and is UTF-8
text : (v : List ℕ) → fault rfc5389 0x0014 v ≡ 0 → (length v ≤ 127) × (is_utf8 v ≡ true)
unfolding fault look entry_fault rule_fault
text v e = go (ltb (length v) 0) (ltb 127 (length v)) (is_utf8 v) refl refl e
  where
    go : (a b c : Bool) → ltb 127 (length v) ≡ b → is_utf8 v ≡ c → ◌≡◌ {A = ℕ} (pick a 11 (pick b 11 (pick c 0 14))) 0
        → (length v ≤ 127) × (c ≡ true)
    go true b c f g h = absurd (omega arith)
    go false true c f g h = absurd (omega arith)
    go false false true f g h = (ltb-false 127 (length v) f, refl)
    go false false false f g h = absurd (omega arith)

pub realm_served : (d : List ℕ) {p : ℕ} {a : Attr} → first rfc5389 0x0014 d ≡ starts p a → (length a.value ≤ 127) × (is_utf8 a.value ≡ true)
realm_served d {p} {a} e = text a.value (served rfc5389 0x0014 d e)
