-- An address as an attribute, by the rule of its type (RFC 5389 sections 15.1 and 15.2; docs/SCOPE.md, "Addresses", "Writing: append").
use Rattle.std.specs.Prelude.{ℕ, Bool, ◌||◌, List, replicate, Result, Ok, Err}
use Rattle.base.specs.Choice.{pick}
use Rattle.wire.specs.declared.refusal.Refusal.{Refusal}
use Rattle.wire.specs.declared.transaction_id.TransactionId.{TransactionId}
use Rattle.header.specs.Header.{front_of}
use Rattle.header.specs.declared.Header.{Header}
use Rattle.attribute.specs.Attribute.{Attr}
use Rattle.net.specs.Net.{addr_xor, address_value}
use Rattle.net.specs.declared.SocketAddr.{SocketAddr}
use Rattle.registry.specs.Rows.{rule_of}
use Rattle.registry.specs.declared.Row.{Row}
use Rattle.registry.specs.declared.Rule.{Rule}
use Rattle.registry.specs.declared.Rule.TheVariants.{Address, XorAddress}
use Rattle.write_typed.specs.Typed.{is_rule, typed}

-- whether a rule is an address's, plain or in XOR form
abbrev pub is_address : Rule → Bool
is_address q = is_rule q Address || is_rule q XorAddress

-- 23: the rule of a type is no address's; 0: it is
unfoldable pub address_refusal : Rule → ℕ
address_refusal q = pick (is_address q) 0 23

-- an address in the form that its rule has on the wire
unfoldable pub given : Rule → SocketAddr → TransactionId → SocketAddr
given q a id = pick (is_rule q XorAddress) (addr_xor a id) a

-- the ID of the message at the front of d, by what is read of its header; zeros where that is refused
abbrev pub id_in : Result Header Refusal → TransactionId
id_in (Ok h) = h.id
id_in (Err r) = record { bytes = replicate 12 0 }

unfoldable pub id_given : List ℕ → TransactionId
id_given d = id_in (front_of d)

-- an address of a type; the XOR form takes that ID
unfoldable pub address_attr : List Row → List ℕ → ℕ → SocketAddr → Attr
address_attr rows d k a = typed k (address_value (given (rule_of rows k) a (id_given d)))
