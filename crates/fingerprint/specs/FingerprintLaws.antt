-- Where a FINGERPRINT can start it owes the sum.
use Rattle.std.specs.Prelude.{ℕ, ◌+◌, ◌-◌, ◌≤◌, List, ◌≡◌, length}
use Rattle.std.proofs.Common.{le-ltb}
use Rattle.fingerprint.specs.Fingerprint.{fingerprint_at, printed}

pub owes_sum : (d : List ℕ) (p : ℕ) → 20 ≤ p → p ≤ length d → p - 20 + 8 ≤ 65535 → printed d p ≡ fingerprint_at d p
unfolding printed
owes_sum d p h l k = simp (le-ltb p 20 h, le-ltb (length d) p l, le-ltb 65535 (p - 20 + 8) k)

-- and elsewhere nothing that the bytes could change
pub owes_same : (d e : List ℕ) (p : ℕ) → 20 ≤ p → p ≤ length d → p ≤ length e → fingerprint_at d p ≡ fingerprint_at e p → printed d p ≡ printed e p
unfolding printed
owes_same d e p h l m s = simp (le-ltb p 20 h, le-ltb (length d) p l, le-ltb (length e) p m, s)
