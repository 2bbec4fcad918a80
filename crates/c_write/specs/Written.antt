-- What C is told by the writer: what the library's answer says, field by field.
use Rattle.std.specs.Prelude.{ℕ, List, ltb, get_or, Result, Err}
use Rattle.base.specs.Choice.{pick}
use Rattle.base.specs.Said.{Said}
use Rattle.wire.specs.Refusal.{by}
use Rattle.wire.specs.declared.refusal.Refusal.{Refusal}
use Rattle.wire.specs.TypeNumber.{class_numbered}
use Rattle.write_begin.specs.Begin.{written_said, begun, beginning}
use Rattle.c_wire.specs.declared.Id.{Id}
use Rattle.c_write.specs.declared.Written.{Written}

-- refused, it has no size to tell
unfoldable pub written_out : Said → Written
written_out s = record { number = s.number; size = get_or s.values 0 0 }

unfoldable pub told : Result ℕ Refusal → Written
told w = written_out (written_said w)

-- a message begun under a class's number; a class above 3 is none: 22, and the buffer as it was
unfoldable pub begun_by : List ℕ → ℕ → ℕ → Written
begun_by d c m = told (pick (ltb 3 c) (Err (by 22)) (begun d (record { code = m })))

unfoldable pub left_by : List ℕ → ℕ → ℕ → Id → List ℕ
left_by d c m id = pick (ltb 3 c) d (beginning d (class_numbered c) (record { code = m }) (record { bytes = id.bytes }))
