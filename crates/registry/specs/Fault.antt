-- What is wrong with a value, by its type: 11, 12, 13, 14 in this order, or 0 (docs/SCOPE.md, "The known types", "Addresses", "ERROR-CODE").
use Rattle.std.specs.Prelude.{ℕ, ◌%◌, List, length, get_or, drop, ltb, eqb, Option, Some, None}
use Rattle.base.specs.Choice.{pick}
use Rattle.utf8_spec.specs.Utf8.{is_utf8}
use Rattle.registry.specs.Rows.{look}
use Rattle.registry.specs.declared.Row.{Row}
use Rattle.registry.specs.declared.Rule.{Rule}
use Rattle.registry.specs.declared.Rule.TheVariants.{Address, XorAddress, Text, Code, Types, Plain}

-- 8 bytes go with family 1 and 20 with family 2
unfoldable pub address_fault : List ℕ → ℕ
address_fault v =
    pick (eqb (length v) 8) (pick (eqb (get_or v 1 0) 1) 0 12)
    (pick (eqb (length v) 20) (pick (eqb (get_or v 1 0) 2) 0 12)
    11)

abbrev pub text_fault : List ℕ → ℕ
text_fault v = pick (is_utf8 v) 0 14

-- two bytes for each type
abbrev pub types_fault : List ℕ → ℕ
types_fault v = pick (eqb (length v % 2) 0) 0 11

-- four bytes; the class is 3 to 6 and the number 0 to 99; then the phrase is UTF-8
unfoldable pub code_fault : List ℕ → ℕ
code_fault v =
    pick (ltb (length v) 4) 11
    (pick (ltb (get_or v 2 0 % 8) 3) 13
    (pick (ltb 6 (get_or v 2 0 % 8)) 13
    (pick (ltb 99 (get_or v 3 0)) 13
    (text_fault (drop 4 v)))))

unfoldable pub rule_fault : Rule → List ℕ → ℕ
rule_fault Address v = address_fault v
rule_fault XorAddress v = address_fault v
rule_fault Text v = text_fault v
rule_fault Code v = code_fault v
rule_fault Types v = types_fault v
rule_fault Plain v = 0

-- a value against the sizes of its type, and then its rule; a type that the list doesn't have owes nothing
unfoldable pub entry_fault : Option Row → List ℕ → ℕ
entry_fault None v = 0
entry_fault (Some r) v = pick (ltb (length v) r.least) 11 (pick (ltb r.greatest (length v)) 11 (rule_fault r.rule v))

unfoldable pub fault : List Row → ℕ → List ℕ → ℕ
fault rows k v = entry_fault (look rows k) v
