-- Addresses and their XOR form (RFC 5389 sections 15.1 and 15.2; docs/SCOPE.md, "Addresses").
use Rattle.std.specs.Prelude.{ℕ, List, [], ◌∷◌, ◌++◌, ◌≡◌, length, take, drop, replicate}
use Rattle.std.specs.Int.Bits.{bit_xor}
use Rattle.big_endian.specs.Numbers.{two}
use Rattle.cookie.specs.Cookie.{cookie}
use Rattle.net.specs.declared.Family.{Family}
use Rattle.net.specs.declared.Family.TheVariants.{Ipv4, Ipv6}
use Rattle.net.specs.declared.SocketAddr.{SocketAddr}
use Rattle.wire.specs.declared.transaction_id.TransactionId.{TransactionId}

abbrev pub family_number : Family → ℕ
family_number Ipv4 = 1
family_number Ipv6 = 2

-- how many bytes an IP of the family has
abbrev pub ip_size : Family → ℕ
ip_size Ipv4 = 4
ip_size Ipv6 = 16

-- bytes xored with a mask; those behind the mask's end stay
unfoldable pub xored : List ℕ → List ℕ → List ℕ
xored [] k = []
xored (a ∷ s) [] = a ∷ s
xored (a ∷ s) (b ∷ k) = bit_xor a b ∷ xored s k

-- the port with the cookie's first half, and as many IP bytes as the family has with the cookie and the ID
unfoldable pub addr_xor : SocketAddr → TransactionId → SocketAddr
addr_xor a id = record {
  family = a.family;
  port = bit_xor a.port 0x2112;
  ip = xored a.ip (take (ip_size a.family) (cookie ++ id.bytes));
}

-- the bytes of an address in a value: nought, the family, the port, as many IP bytes as the family has
unfoldable pub address_value : SocketAddr → List ℕ
address_value a = 0 ∷ family_number a.family ∷ two a.port ++ take (ip_size a.family) a.ip

-- the IP stands in 16 bytes, with noughts behind it
pub record Sound (a : SocketAddr) : Type 0 where
  pub size : length a.ip ≡ 16
  pub behind : drop (ip_size a.family) a.ip ≡ drop (ip_size a.family) (replicate 16 0)
