-- What an address is written as is an address: over the size of its IP.
use Rattle.std.specs.Prelude.{ℕ, ◌+◌, ◌≤◌, List, ◌≡◌, refl, length, get_or, take, Some}
use Rattle.std.proofs.Common.{arith, length-take}
use Rattle.net.specs.Net.{family_number, ip_size, address_value}
use Rattle.net.specs.declared.Family.{Family}
use Rattle.net.specs.declared.Family.TheVariants.{Ipv4, Ipv6}
use Rattle.net.specs.declared.SocketAddr.{SocketAddr}
use Rattle.registry.specs.Rows.{row}
use Rattle.registry.specs.Fault.{address_fault, rule_fault, entry_fault}
use Rattle.registry.specs.declared.Rule.TheVariants.{Address, XorAddress}

pub ip_small : (f : Family) → ip_size f ≤ 16
ip_small Ipv4 = omega arith
ip_small Ipv6 = omega arith

pub ip_length : (a : SocketAddr) → length a.ip ≡ 16 → length (take (ip_size a.family) a.ip) ≡ ip_size a.family
ip_length a e = simp length-take (omega (arith, ip_small a.family))

-- a family with a value of its size
pair : (k : ℕ) (v : List ℕ) (f : Family) → length v ≡ 4 + ip_size f → get_or v 1 0 ≡ family_number f → entry_fault (Some (row k 8 20 Address)) v ≡ 0
unfolding entry_fault rule_fault address_fault
pair k v Ipv4 e g = rw (e, g)
pair k v Ipv6 e g = rw (e, g)

pub address_right : (k : ℕ) (a : SocketAddr) → length a.ip ≡ 16 → entry_fault (Some (row k 8 20 Address)) (address_value a) ≡ 0
unfolding address_value
address_right k a e = pair k (address_value a) a.family (omega (arith, ip_length a e)) refl

-- in either form
pub xor_address_right : (k : ℕ) (a : SocketAddr) → length a.ip ≡ 16 → entry_fault (Some (row k 8 20 XorAddress)) (address_value a) ≡ 0
unfolding entry_fault rule_fault
xor_address_right k a e = address_right k a e
