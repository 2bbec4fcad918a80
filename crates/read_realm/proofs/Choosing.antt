-- What `chosen` returns, case by case: the bytes, and where they lie.
use Rattle.std.specs.Prelude.{ℕ, ◌+◌, ◌-◌, List, false, ◌≡◌, take, drop, Option, Some, None}
use Rattle.std.proofs.Common.{ap}
use Rattle.registry.specs.Rows.{rfc5389}
use Rattle.read_first.specs.declared.Found.{Found}
use Rattle.read_first.specs.First.{first, placed, is_there}
use Rattle.read_first.proofs.FirstLaws.{part, absent, value, value_at_lem}
use Rattle.read_realm.specs.Realm.{realm_of, realm_at}

module _ (d s : List ℕ) {f : Option Found} (e : f ≡ placed (first rfc5389 0x0014 d)) where
  module _ (g : f ≡ None) where
    none_there : is_there (first rfc5389 0x0014 d) ≡ false
    unfolding is_there
    none_there = ap is_there (absent (first rfc5389 0x0014 d) e g)

    pub configured : s ≡ realm_of rfc5389 d s
    unfolding realm_of
    configured = rw none_there

    pub configured_at : (p q : ℕ × ℕ) → q ≡ realm_at rfc5389 d p q
    unfolding realm_at
    configured_at p q = rw none_there

  module _ {y : Found} (g : f ≡ Some y) where
    pub own : take (y.at + 4 + y.size - (y.at + 4)) (drop (y.at + 4) d) ≡ realm_of rfc5389 d s
    unfolding realm_of
    own = rw (part d 0x0014 rfc5389 e g).there (value rfc5389 d 0x0014 e g)

    pub own_at : (p q : ℕ × ℕ) → ◌≡◌ {A = ℕ × ℕ} (p.0, y.at + 4 + p.1) (realm_at rfc5389 d p q)
    unfolding realm_at
    own_at p q = rw (part d 0x0014 rfc5389 e g).there (value_at_lem rfc5389 d 0x0014 e g p.0 p.1)
