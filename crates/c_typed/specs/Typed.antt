-- What C is told of a value: what the library's answer says, field by field, and nought where it says nothing.
use Rattle.std.specs.Prelude.{ℕ, drop, replicate, eqb, get_or, Result}
use Rattle.base.specs.Choice.{pick}
use Rattle.base.specs.Said.{Said}
use Rattle.wire.specs.declared.refusal.Refusal.{Refusal}
use Rattle.read_typed.specs.Typed.{typed_said}
use Rattle.read_typed.specs.declared.Value.{Value}
use Rattle.c_typed.specs.declared.Typed.{Typed}

-- an address, kind 0, has family, port and IP, an error code, kind 1, code and reserved number; then the start and size of the part
unfoldable pub typed_out : Said → ℕ → ℕ → Typed
typed_out s a n = record {
  number = s.number;
  family = pick (eqb s.kind 0) (get_or s.values 0 0) 0;
  port = pick (eqb s.kind 0) (get_or s.values 1 0) 0;
  code = pick (eqb s.kind 1) (get_or s.values 0 0) 0;
  reserved = pick (eqb s.kind 1) (get_or s.values 1 0) 0;
  ip = pick (eqb s.kind 0) (drop 2 s.values) (replicate 16 0);
  start = a;
  size = n;
}

unfoldable pub typed_told : Result Value Refusal → ℕ → ℕ → Typed
typed_told r a n = typed_out (typed_said r) a n
