-- The contract of `realm_to_use` determines the part: its bytes, and where it lies.
use Prim.Native.Nat.{ℕ}
use mathlib.Core.List.{List}
use mathlib.Core.Path.{ap₂}
use Rattle.base.specs.DeterminedLaws.{by}
use Rattle.base.specs.Determined.{Determines}
use Rattle.registry.specs.Rows.{rfc5389}
use Rattle.read_realm.specs.Realm.{realm_of, realm_at}
use Rattle.read_realm.proofs.realm_to_use.Kinds as realm_kinds
use Rattle.read_realm.proofs.realm_to_use.Reads as realm_reads

pub determined-realm_to_use : Determines realm_kinds.ps realm_kinds.r {I = List ℕ × (ℕ × ℕ) × List ℕ × (ℕ × ℕ)} {A = List ℕ × (ℕ × ℕ)} realm_reads.Asked realm_reads.Learnt
    (λ κs a. (a.0.now, a.0.ref_ptr, a.1.0.now, a.1.0.ref_ptr)) (λ κs z e. (z.now, z.ref_ptr))
determined-realm_to_use =
    by realm_kinds.ps realm_kinds.r realm_reads.Asked realm_reads.Learnt _ _
    (λ x. (realm_of rfc5389 x.0 x.2, realm_at rfc5389 x.0 x.1 x.3))
    (λ κs a y d i q. ap₂ (λ (u : List ℕ) (v : ℕ × ℕ). (u, v)) q.0 q.1)
