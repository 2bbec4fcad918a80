-- What C is told of the XOR form: the library's answer in numbers.
use Rattle.std.specs.Prelude.{ℕ, replicate, eqb}
use Rattle.base.specs.Choice.{pick}
use Rattle.net.specs.Net.{addr_xor}
use Rattle.net.specs.declared.Family.{Family}
use Rattle.net.specs.declared.Family.TheVariants.{Ipv4, Ipv6}
use Rattle.net.specs.declared.SocketAddr.{SocketAddr}
use Rattle.c_wire.specs.declared.Id.{Id}
use Rattle.c_wire.specs.declared.Address.{Address}
use Rattle.c_wire.specs.declared.XorForm.{XorForm}

-- an address as the library has it, and back under a family's number
abbrev pub addr : Family → Address → SocketAddr
addr f a = record { family = f; port = a.port; ip = a.ip }

unfoldable pub back : ℕ → SocketAddr → XorForm
back n a = record { number = 0; address = record { family = n; port = a.port; ip = a.ip } }

unfoldable pub formed : Family → Address → Id → XorForm
formed f a id = back a.family (addr_xor (addr f a) (record { bytes = id.bytes }))

-- a family that is none: 12
unfoldable pub form_of : Address → Id → XorForm
form_of a id =
    pick (eqb a.family 1) (formed Ipv4 a id)
    (pick (eqb a.family 2) (formed Ipv6 a id)
    (record { number = 12; address = record { family = 0; port = 0; ip = replicate 16 0 } }))
