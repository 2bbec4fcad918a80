-- The FINGERPRINTs of a datagram, judged in order: 15 (docs/SCOPE.md, "Reading a datagram").
use Rattle.std.specs.Prelude.{ℕ, List, ◌&&◌, length, drop, leb, eqb}
use Rattle.base.specs.Choice.{pick}
use Rattle.base.specs.Same.{same}
use Rattle.big_endian.specs.Numbers.{four}
use Rattle.attribute.specs.Attribute.{Attr, parse}
use Rattle.attribute.specs.Scan.{Scan, scan, scanned}
use Rattle.fingerprint.specs.Fingerprint.{printed}

-- a FINGERPRINT at p: 15 where its value differs from the sum owed there
unfoldable pub print_fault : List ℕ → ℕ → ℕ → List ℕ → ℕ
print_fault d p k v = pick (eqb k 0x8028) (pick (same v (four (printed d p))) 0 15) 0

unfoldable pub print_faults : List ℕ → ℕ → Attr → ℕ
print_faults d p a = print_fault d p a.kind a.value

-- from place p on, behind n attributes that passed
unfoldable pub on_from : List ℕ → ℕ → ℕ → Scan
on_from d p n = scan (print_faults d) n p (parse 0 (drop p d))

-- the same, or all of them where no attribute can start at p or n can't stand before it
unfoldable pub prints_from : List ℕ → ℕ → ℕ → Scan
prints_from d p n = pick (leb 20 p && leb p (length d) && leb n p) (on_from d p n) (scanned (print_faults d) d)
