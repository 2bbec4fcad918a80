-- A message begun (RFC 5389 section 6; docs/SCOPE.md, "Writing: begin"), and what a call of the writer answers.
use Rattle.std.specs.Prelude.{ℕ, List, [], ◌∷◌, ◌++◌, length, ltb, eqb, Result, Ok, Err}
use Rattle.base.specs.Choice.{pick}
use Rattle.base.specs.Said.{Said}
use Rattle.base.specs.Laid.{laid}
use Rattle.big_endian.specs.Numbers.{two}
use Rattle.cookie.specs.Cookie.{cookie}
use Rattle.wire.specs.Refusal.{by, result_said}
use Rattle.wire.specs.TypeNumber.{type_of, class_number}
use Rattle.wire.specs.declared.method.Method.{Method}
use Rattle.wire.specs.declared.refusal.Refusal.{Refusal}
use Rattle.wire.specs.declared.transaction_id.TransactionId.{TransactionId}
use Rattle.wire.specs.declared.types.MessageClass.{MessageClass}

-- what an answer says: the message's size from now on, or refused by a number
unfoldable pub written_said : Result ℕ Refusal → Said
written_said = result_said (λ (n : ℕ). n ∷ [])

-- a header: type number, body length, cookie, ID
unfoldable pub head_bytes : ℕ → ℕ → List ℕ → List ℕ
head_bytes t n id = two t ++ two n ++ cookie ++ id

-- 22: the method is above 4,095; 26: the buffer is too small; 0: neither
unfoldable pub begin_fault : List ℕ → ℕ → ℕ
begin_fault d m = pick (ltb m 4096) (pick (ltb (length d) 20) 26 0) 22

-- the answer
unfoldable pub begun : List ℕ → Method → Result ℕ Refusal
begun d m = pick (eqb (begin_fault d m.code) 0) (Ok 20) (Err (by (begin_fault d m.code)))

-- the buffer afterwards: as it was where refused
unfoldable pub beginning : List ℕ → MessageClass → Method → TransactionId → List ℕ
beginning d c m id =
    pick (eqb (begin_fault d m.code) 0) (laid d 0 (head_bytes (type_of (class_number c) m.code) 0 id.bytes)) d
