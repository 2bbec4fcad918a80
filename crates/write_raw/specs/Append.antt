-- An attribute appended (docs/SCOPE.md, "Writing: append"): the answer, and the buffer afterwards.
use Rattle.std.specs.Prelude.{ℕ, List, length, Result, Ok, Err}
use Rattle.base.specs.Laid.{laid}
use Rattle.big_endian.specs.Numbers.{two}
use Rattle.wire.specs.declared.refusal.Refusal.{Refusal}
use Rattle.attribute.specs.Attribute.{Attr, bytes_of}
use Rattle.write_plan.specs.Plan.{plan_of}
use Rattle.write_plan.specs.declared.Room.{Room}

abbrev pub attr : ℕ → List ℕ → List ℕ → Attr
attr k v q = record { kind = k; value = v; pad = q }

unfoldable pub answered : Result Room Refusal → Result ℕ Refusal
answered (Ok r) = Ok r.total
answered (Err r) = Err r

-- the attribute at its place and the new body length in the header; as it was where nothing goes
unfoldable pub written : List ℕ → Attr → Result Room Refusal → List ℕ
written d a (Ok r) = laid (laid d r.at (bytes_of a)) 2 (two r.body)
written d a (Err r) = d

-- the plan for an attribute; f is 23 where its value is refused as such, else 0
unfoldable pub plan_for : List ℕ → ℕ → Attr → Result Room Refusal
plan_for d f a = plan_of d f (length a.value) (length a.pad)

unfoldable pub answer : List ℕ → ℕ → Attr → Result ℕ Refusal
answer d f a = answered (plan_for d f a)

unfoldable pub appended : List ℕ → ℕ → Attr → List ℕ
appended d f a = written d a (plan_for d f a)
