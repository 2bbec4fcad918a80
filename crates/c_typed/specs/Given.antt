-- What C gives to a typed append: an address, with its family as a number, and an error code by its parts.
use Rattle.std.specs.Prelude.{ℕ, List, ◌||◌, eqb}
use Rattle.base.specs.Choice.{pick}
use Rattle.attribute.specs.Attribute.{Attr}
use Rattle.registry.specs.Rows.{rfc5389, rule_of}
use Rattle.registry.specs.declared.ErrorCode.{ErrorCode}
use Rattle.read_typed.specs.Typed.{family_numbered}
use Rattle.write_address.specs.Address.{address_refusal, address_attr}
use Rattle.c_wire.specs.XorForm.{addr}
use Rattle.c_wire.specs.declared.Address as c

-- 23: the number is no family's, or the type no address's; 0: neither
unfoldable pub refusal_of : ℕ → c.Address → ℕ
refusal_of k a = pick (eqb a.family 1 || eqb a.family 2) (address_refusal (rule_of rfc5389 k)) 23

unfoldable pub attr_of : List ℕ → ℕ → c.Address → Attr
attr_of d k a = address_attr rfc5389 d k (addr (family_numbered a.family) a)

abbrev pub error_of : ℕ → ℕ → ErrorCode
error_of c r = record { code = c; reserved = r }
