-- Typed reading: what a value says, by its type (RFC 5389 sections 15.1, 15.2 and 15.6; docs/SCOPE.md, "Typed reading").
use Rattle.std.specs.Prelude.{ℕ, List, [], ◌∷◌, get_or, drop, replicate, eqb, Result, Ok, Err}
use Rattle.base.specs.Choice.{pick}
use Rattle.base.specs.Said.{Said, says}
use Rattle.big_endian.specs.Numbers.{be16}
use Rattle.buffers.specs.Put.{put}
use Rattle.wire.specs.Refusal.{by}
use Rattle.wire.specs.declared.refusal.Refusal.{Refusal}
use Rattle.wire.specs.declared.transaction_id.TransactionId.{TransactionId}
use Rattle.net.specs.Net.{family_number, addr_xor}
use Rattle.net.specs.declared.Family.{Family}
use Rattle.net.specs.declared.Family.TheVariants.{Ipv4, Ipv6}
use Rattle.net.specs.declared.SocketAddr.{SocketAddr}
use Rattle.registry.specs.Rows.{rule_of}
use Rattle.registry.specs.Fault.{fault}
use Rattle.registry.specs.ErrorCode.{code_of}
use Rattle.registry.specs.declared.Row.{Row}
use Rattle.registry.specs.declared.Rule.{Rule}
use Rattle.registry.specs.declared.Rule.TheVariants as rule
use Rattle.read_typed.specs.declared.Value.{Value}
use Rattle.read_typed.specs.declared.Value.TheVariants.{Address, Code, Plain}

-- what an answer says: an address, with family and port; a code, with the reserved number; plain bytes; or refused by 11 to 14; and the 16
-- bytes of the IP, noughts where there is none
unfoldable pub value_said : Value → Said
value_said (Address a) = says 0 0 (family_number a.family ∷ a.port ∷ a.ip)
value_said (Code e) = says 1 0 (e.code ∷ e.reserved ∷ replicate 16 0)
value_said Plain = says 2 0 (replicate 16 0)

unfoldable pub typed_said : Result Value Refusal → Said
typed_said (Ok v) = value_said v
typed_said (Err r) = says 3 r.number (replicate 16 0)

abbrev pub family_numbered : ℕ → Family
family_numbered n = pick (eqb n 1) Ipv4 Ipv6

-- the IP stands at the front of 16 bytes, with noughts behind it
unfoldable pub ip_of : List ℕ → List ℕ
ip_of v = put (replicate 16 0) 0 (drop 4 v)

-- byte 1 the family, bytes 2 and 3 the port, and from byte 4 on the IP
unfoldable pub address_of : List ℕ → SocketAddr
address_of v = record { family = family_numbered (get_or v 1 0); port = be16 v 2; ip = ip_of v }

-- what a value without fault says, by the rule of its type: the XOR form is undone
unfoldable pub read_of : Rule → List ℕ → TransactionId → Value
read_of rule.Address v id = Address (address_of v)
read_of rule.XorAddress v id = Address (addr_xor (address_of v) id)
read_of rule.Code v id = Code (code_of v)
read_of rule.Text v id = Plain
read_of rule.Types v id = Plain
read_of rule.Plain v id = Plain

-- a value at fault is refused by 11 to 14
unfoldable pub typed_of : List Row → ℕ → List ℕ → TransactionId → Result Value Refusal
typed_of rows k v id = pick (eqb (fault rows k v) 0) (Ok (read_of (rule_of rows k) v id)) (Err (by (fault rows k v)))

-- the part of the value that goes with it: the phrase of an ERROR-CODE, nothing of an address, and else the value itself
unfoldable pub part_by : Rule → List ℕ → List ℕ
part_by rule.Address v = []
part_by rule.XorAddress v = []
part_by rule.Code v = drop 4 v
part_by rule.Text v = v
part_by rule.Types v = v
part_by rule.Plain v = v

unfoldable pub part_of : List Row → ℕ → List ℕ → List ℕ
part_of rows k v = pick (eqb (fault rows k v) 0) (part_by (rule_of rows k) v) []

-- where it starts in the value
unfoldable pub start_by : Rule → ℕ
start_by rule.Address = 0
start_by rule.XorAddress = 0
start_by rule.Code = 4
start_by rule.Text = 0
start_by rule.Types = 0
start_by rule.Plain = 0

unfoldable pub part_at : List Row → ℕ → List ℕ → ℕ
part_at rows k v = pick (eqb (fault rows k v) 0) (start_by (rule_of rows k)) 0
