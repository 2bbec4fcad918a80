-- n places from p on.
use Rattle.std.specs.Prelude.{ℕ}
use Rattle.display.specs.declared.Span.{Span}

abbrev pub span : ℕ → ℕ → Span
span p n = record { at = p; size = n }
