-- Attributes judged in order: the first fault decides, with its place (docs/SCOPE.md, "Reading a datagram").
use Rattle.std.specs.Prelude.{ℕ, ◌+◌, List, [], ◌∷◌, ◌≡◌, length, drop, eqb, Result, Ok, Err}
use Rattle.base.specs.Choice.{pick}
use Rattle.base.specs.Said.{Said, says}
use Rattle.attribute.specs.Attribute.{Attr, Body, stop, more, bytes_of, parse}
use Rattle.wire.specs.Refusal.{by}
use Rattle.attribute.specs.declared.Fault.{Fault}

-- what judging comes to: how many attributes passed, or the first fault
abbrev pub Scan : Type 0
Scan = Result ℕ Fault

abbrev pub at_fault : ℕ → ℕ → Scan
at_fault r p = Err (record { reason = by r; place = p })

-- what an answer says: passed, with the number of attributes, or the number of the first fault and its place
unfoldable pub scan_said : Scan → Said
scan_said (Ok n) = says 0 0 (n ∷ [])
scan_said (Err f) = says 1 f.reason.number (f.place ∷ [])

-- the body b starts at p, behind n attributes that passed; `fault` gives the number of an attribute at a place, 0 where it passes
unfoldable pub scan : (ℕ → Attr → ℕ) → ℕ → ℕ → Body → Scan
scan fault n p (stop []) = Ok n
scan fault n p (stop (b ∷ r)) = at_fault 10 p
scan fault n p (more a b) = pick (eqb (fault p a) 0) (scan fault (n + 1) (p + length (bytes_of a)) b) (at_fault (fault p a) p)

-- all attributes of a datagram
unfoldable pub scanned : (ℕ → Attr → ℕ) → List ℕ → Scan
scanned fault d = scan fault 0 20 (parse 0 (drop 20 d))

-- each attribute of a list passes, the first of them at p
abbrev pub Pass : (ℕ → Attr → ℕ) → ℕ → List Attr → Type 0
Pass f p [] = Unit {0}
Pass f p (a ∷ xs) = (f p a ≡ 0) × Pass f (p + length (bytes_of a)) xs
