-- What the calls return, case by case.
use mathlib.Core.Path.{◌≡◌, ap}
use borrow.Author.Tests.{eq-eqb, ne_eqb}
use lib.ListN.{replicate}
use Rattle.net.specs.Net.{addr_xor}
use Rattle.net.specs.declared.Family.{Family}
use Rattle.net.specs.declared.Family.TheVariants.{Ipv4, Ipv6}
use Rattle.net.specs.declared.SocketAddr.{SocketAddr}
use Rattle.c_wire.specs.XorForm.{addr, back, formed, form_of}
use Rattle.c_wire.specs.declared.Id.{Id}
use Rattle.c_wire.specs.declared.Address.{Address}
use Rattle.c_wire.specs.declared.XorForm.{XorForm}

-- the XOR form
pub other : (f : Family) (a : Address) (id : Id) {s : SocketAddr} → s ≡ addr_xor (addr f a) (record { bytes = id.bytes })
    → record { number = 0; address = record { family = a.family; port = s.port; ip = s.ip } } ≡ formed f a id
unfolding formed back
other f a id e = ap (back a.family) e

module _ (a : Address) (id : Id) where
  pub form_4 : {r : XorForm} → a.family ≡ 1 → r ≡ formed Ipv4 a id → r ≡ form_of a id
  unfolding form_of
  form_4 e f = rw (eq-eqb a.family 1 e) f

  module _ (n : a.family ≡ 1 → ⊥) where
    pub form_6 : {r : XorForm} → a.family ≡ 2 → r ≡ formed Ipv6 a id → r ≡ form_of a id
    unfolding form_of
    form_6 e f = rw (ne_eqb a.family 1 n, eq-eqb a.family 2 e) f

    pub form_none : (a.family ≡ 2 → ⊥) → record { number = 12; address = record { family = 0; port = 0; ip = replicate 16 0 } } ≡ form_of a id
    unfolding form_of
    form_none e = rw (ne_eqb a.family 1 n, ne_eqb a.family 2 e)
