-- When the append of an ERROR-CODE is refused (docs/SCOPE.md, "Writing: append").
use Rattle.std.specs.Prelude.{ℕ, List, ltb}
use Rattle.base.specs.Choice.{pick}
use Rattle.registry.specs.ErrorCode.{code_value}
use Rattle.registry.specs.declared.ErrorCode.{ErrorCode}
use Rattle.registry.specs.declared.Row.{Row}
use Rattle.write_typed.specs.Typed.{refusal}

-- 23: the code is not 300 to 699, the reserved number has more than 21 bits, or the phrase is too long or no UTF-8
unfoldable pub code_refusal : List Row → ErrorCode → List ℕ → ℕ
code_refusal rows e s =
    pick (ltb e.code 300) 23
    (pick (ltb 699 e.code) 23
    (pick (ltb 2097151 e.reserved) 23
    (refusal rows 0x0009 (code_value e s))))
