-- The front of a datagram in which no FINGERPRINT stands, as the reader finds it on its way.
use Rattle.std.specs.Prelude.{ℕ, ◌+◌, List, ◌≡◌, eqb, Result, Ok, Err}
use Rattle.base.specs.Choice.{pick}
use Rattle.attribute.specs.Scan.{scanned}
use Rattle.attribute.specs.Scanning.{Scanning}
use Rattle.attribute.specs.declared.Fault.{Fault}
use Rattle.registry.specs.Rows.{rfc5389}
use Rattle.read_fingerprints.specs.Fingerprints.{print_faults}
use Rattle.read_message.specs.Reading.{value_faults}
use Rattle.read_message.specs.declared.Front.{Front}

-- past an attribute of type k from p to x: where the front ends at p, and it is no FINGERPRINT
unfoldable pub past_of : Front → ℕ → ℕ → ℕ → Front
past_of f p k x = pick (eqb f.at p) (pick (eqb k 0x8028) f (record { at = x; count = f.count + 1 })) f

-- what the values come to: all pass, and the FINGERPRINTs may be judged from the front's end on; or the first fault
abbrev pub Values : List ℕ → Result Front Fault → Type 0
Values d (Ok f) = ((n : ℕ) × (scanned (value_faults rfc5389) d ≡ Ok n)) × Scanning (print_faults d) d f.at f.count (scanned (print_faults d) d)
Values d (Err f) = scanned (value_faults rfc5389) d ≡ Err f
