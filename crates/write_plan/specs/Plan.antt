-- What appending an attribute comes to (docs/SCOPE.md, "Writing: append": 21, 23, 24, 25, 26 in this order).
use Rattle.std.specs.Prelude.{ℕ, ◌+◌, List, [], ◌∷◌, Bool, true, false, length, take, drop, ltb, eqb, Result, Ok, Err}
use Rattle.base.specs.Choice.{pick}
use Rattle.base.specs.Said.{Said}
use Rattle.big_endian.specs.Numbers.{be16}
use Rattle.wire.specs.Refusal.{by, result_said}
use Rattle.wire.specs.declared.refusal.Refusal.{Refusal}
use Rattle.header.specs.Header.{front_fault}
use Rattle.attribute.specs.Attribute.{padded, rest, parse}
use Rattle.write_plan.specs.declared.Room.{Room}

-- what an answer says: where the attribute goes, the body length then and the total then; or refused by a number
unfoldable pub plan_said : Result Room Refusal → Said
plan_said = result_said (λ (r : Room). r.at ∷ r.body ∷ r.total ∷ [])

abbrev pub none : List ℕ → Bool
none [] = true
none (b ∷ r) = false

-- do the attributes of a message cover its body?
unfoldable pub covers : List ℕ → Bool
covers m = none (rest (parse 0 (drop 20 m)))

-- the size of the message at the front of a buffer, as its header says
abbrev pub size_of : List ℕ → ℕ
size_of d = 20 + be16 d 2

-- 21: the front is no header by the checks 1 to 3, or its message runs past the buffer, or the attributes don't cover the body; 0: none of these
unfoldable pub message_fault : List ℕ → ℕ
message_fault d = pick (eqb (front_fault d) 0) (pick (ltb (length d) (size_of d)) 21 (pick (covers (take (size_of d) d)) 0 21)) 21

-- the body length of a message that an attribute can be put behind
unfoldable pub body_at : List ℕ → Result ℕ Refusal
body_at d = pick (eqb (message_fault d) 0) (Ok (be16 d 2)) (Err (by 21))

-- the body with one attribute more, of n bytes
abbrev pub body_with : List ℕ → ℕ → ℕ
body_with d n = be16 d 2 + 4 + padded n

-- an attribute of n bytes and m of padding, behind the message at the front of d; f is 23 where its value is refused as such, else 0
unfoldable pub plan_of : List ℕ → ℕ → ℕ → ℕ → Result Room Refusal
plan_of d f n m =
    pick (eqb (message_fault d) 0)
    (pick (eqb f 0)
    (pick (eqb (n + m) (padded n))
    (pick (ltb 65532 (body_with d n))
    (Err (by 25))
    (pick (ltb (length d) (20 + body_with d n))
    (Err (by 26))
    (Ok (record { at = size_of d; body = body_with d n; total = 20 + body_with d n }))))
    (Err (by 24)))
    (Err (by f)))
    (Err (by 21))
