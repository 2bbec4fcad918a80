-- The register on its way over a datagram, from FINGERPRINT to FINGERPRINT.
use Rattle.std.specs.Prelude.{ℕ, ◌≤◌, ◌<◌, List, ◌≡◌, Result, Ok, Err}
use Rattle.std.specs.Int.Bits.{bit_xor}
use Rattle.crc.specs.Octets.{octets, times}
use Rattle.wire.specs.Refusal.{by}
use Rattle.wire.specs.declared.refusal.Refusal.{Refusal}
use Rattle.fingerprint.specs.Register.{register, field}
use Rattle.read_fingerprints.specs.declared.Running.{Running}

-- at p, with n in the length field
unfoldable pub running_at : List ℕ → ℕ → ℕ → Running
running_at d p n = record { upto = p; length = n; sum = register d p n; power = octets p 0x8000_0000 }

-- another number in the length field
unfoldable pub relength_of : Running → ℕ → Running
relength_of r n = record {
  upto = r.upto;
  length = n;
  sum = bit_xor r.sum (times 32 (bit_xor (field n) (field r.length)) r.power);
  power = r.power;
}

-- the register is right as far as it has gone, which is no further than p
pub record Ran (d : List ℕ) (r : Running) (p : ℕ) : Type 0 where
  pub right : r ≡ running_at d r.upto r.length
  pub behind : r.upto ≤ p
  pub short : r.length < 65536

-- an attribute at p of which n is the fault: the register goes on where there is none, else the number is answered
abbrev pub Judged : List ℕ → ℕ → ℕ → Result Running Refusal → Type 0
Judged d p n (Ok r) = (n ≡ 0) × Ran d r p
Judged d p n (Err f) = (f ≡ by n) × (n ≡ 0 → ⊥)
