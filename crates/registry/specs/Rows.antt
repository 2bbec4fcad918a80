-- The list of types: a row for each kind, with its least and greatest size and its rule (RFC 5389 section 15; docs/SCOPE.md, "The known types").
use Rattle.std.specs.Prelude.{ℕ, List, [], ◌∷◌, eqb, Option, Some, None}
use Rattle.base.specs.Choice.{pick}
use Rattle.base.specs.Said.{Said, says}
use Rattle.registry.specs.declared.Row.{Row}
use Rattle.registry.specs.declared.Rule.{Rule}
use Rattle.registry.specs.declared.Rule.TheVariants.{Plain, Address, XorAddress, Text, Code, Types}

abbrev pub row : ℕ → ℕ → ℕ → Rule → Row
row k l g q = record { kind = k; least = l; greatest = g; rule = q }

abbrev pub rfc5389 : List Row
rfc5389 =
    row 0x0001 8 20 Address
    ∷ row 0x0006 0 512 Text
    ∷ row 0x0008 20 20 Plain
    ∷ row 0x0009 4 131 Code
    ∷ row 0x000A 0 65534 Types
    ∷ row 0x0014 0 127 Text
    ∷ row 0x0015 0 127 Text
    ∷ row 0x0020 8 20 XorAddress
    ∷ row 0x8022 0 127 Text
    ∷ row 0x8023 8 20 Address
    ∷ row 0x8028 4 4 Plain
    ∷ []

-- the rules by number
unfoldable pub rule_number : Rule → ℕ
rule_number Plain = 0
rule_number Address = 1
rule_number XorAddress = 2
rule_number Text = 3
rule_number Code = 4
rule_number Types = 5

-- what an answer says: the row of a type that is listed, or that it isn't
unfoldable pub entry_said : Option Row → Said
entry_said (Some r) = says 0 0 (r.kind ∷ r.least ∷ r.greatest ∷ rule_number r.rule ∷ [])
entry_said None = says 1 0 []

-- what a list says of a type
unfoldable pub look : List Row → ℕ → Option Row
look [] k = None
look (r ∷ rs) k = pick (eqb r.kind k) (Some r) (look rs k)

-- the rule of an entry: a type that isn't listed is plain
unfoldable pub rule_in : Option Row → Rule
rule_in (Some r) = r.rule
rule_in None = Plain

abbrev pub rule_of : List Row → ℕ → Rule
rule_of rows k = rule_in (look rows k)
