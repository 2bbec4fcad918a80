-- The magic cookie (RFC 5389 section 6).
use Rattle.std.specs.Prelude.{ℕ, List, [], ◌∷◌, Bool, take, drop}
use Rattle.base.specs.Same.{same}

abbrev pub cookie : List ℕ
cookie = 0x21 ∷ 0x12 ∷ 0xA4 ∷ 0x42 ∷ []

-- do the four bytes at p exist and are they the cookie's?
unfoldable pub cookie_at : List ℕ → ℕ → Bool
cookie_at d p = same (take 4 (drop p d)) cookie
