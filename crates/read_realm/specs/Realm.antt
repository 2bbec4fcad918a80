-- The realm to use (docs/SCOPE.md, "The realm to use").
use Rattle.std.specs.Prelude.{ℕ, ◌+◌, List}
use Rattle.base.specs.Choice.{pick}
use Rattle.registry.specs.declared.Row.{Row}
use Rattle.read_first.specs.First.{first, is_there, value_of, value_at}

-- the value of the first REALM of the datagram d, and s where there is none
unfoldable pub realm_of : List Row → List ℕ → List ℕ → List ℕ
realm_of rows d s = pick (is_there (first rows 0x0014 d)) (value_of (first rows 0x0014 d)) s

-- where it lies, if the datagram lies at p and s at q
unfoldable pub realm_at : List Row → List ℕ → ℕ × ℕ → ℕ × ℕ → ℕ × ℕ
realm_at rows d p q = pick (is_there (first rows 0x0014 d)) (p.0, value_at (first rows 0x0014 d) + p.1) q
