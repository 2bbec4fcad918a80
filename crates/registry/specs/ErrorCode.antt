-- What the value of an ERROR-CODE says, and the value that it is written as (RFC 5389 section 15.6; docs/SCOPE.md, "ERROR-CODE").
use Rattle.std.specs.Prelude.{ℕ, ◌+◌, ◌*◌, ◌/◌, ◌%◌, List, ◌∷◌, get_or}
use Rattle.registry.specs.declared.ErrorCode.{ErrorCode}

-- of the first 32 bits the upper 21 are reserved, then 3 are the class and 8 the number
unfoldable pub code_of : List ℕ → ErrorCode
code_of v = record {
  code = get_or v 2 0 % 8 * 100 + get_or v 3 0;
  reserved = get_or v 0 0 * 8192 + get_or v 1 0 * 32 + get_or v 2 0 / 8;
}

-- the same bits, and the phrase behind them
unfoldable pub code_value : ErrorCode → List ℕ → List ℕ
code_value e s = e.reserved / 8192 ∷ e.reserved / 32 % 256 ∷ (e.reserved % 32 * 8 + e.code / 100) ∷ e.code % 100 ∷ s
