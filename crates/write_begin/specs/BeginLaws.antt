-- The number that `begin` answers, and that a refusal leaves every byte as it was.
use Rattle.std.specs.Prelude.{ℕ, List, Bool, true, false, ◌≡◌, refl, eqb, Result, Ok, Err}
use Rattle.std.proofs.Common.{arith}
use Rattle.base.specs.Choice.{pick}
use Rattle.base.specs.Laid.{laid}
use Rattle.wire.specs.Refusal.{by}
use Rattle.wire.specs.TypeNumber.{type_of, class_number}
use Rattle.wire.specs.declared.method.Method.{Method}
use Rattle.wire.specs.declared.refusal.Refusal.{Refusal}
use Rattle.wire.specs.declared.transaction_id.TransactionId.{TransactionId}
use Rattle.wire.specs.declared.types.MessageClass.{MessageClass}
use Rattle.write_begin.specs.Begin.{head_bytes, begin_fault, begun, beginning}

-- NOTHING SPOILT
pub refused_keeps : (d : List ℕ) (c : MessageClass) (m : Method) (id : TransactionId) {r : Refusal} → begun d m ≡ Err r → beginning d c m id ≡ d
unfolding begun beginning
refused_keeps d c m id {r} e = go (eqb (begin_fault d m.code) 0) e
  where
    go : (b : Bool) → ◌≡◌ {A = Result ℕ Refusal} (pick b (Ok 20) (Err (by (begin_fault d m.code)))) (Err r)
        → pick b (laid d 0 (head_bytes (type_of (class_number c) m.code) 0 id.bytes)) d ≡ d
    go true f = let z : ◌≡◌ {A = ℕ} 0 1 = cc in absurd (omega arith)
    go false f = refl
