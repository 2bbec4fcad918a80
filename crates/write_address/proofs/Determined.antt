-- The contracts of the public calls determine their answers and the buffer.
use Rattle.std.specs.Prelude.{ℕ, List, Result}
use Rattle.std.proofs.Common.{ap₂}
use Rattle.base.specs.DeterminedLaws.{by}
use Rattle.base.specs.Determined.{Determines}
use Rattle.wire.specs.declared.refusal.Refusal.{Refusal}
use Rattle.registry.specs.Rows.{rfc5389, rule_of}
use Rattle.net.specs.declared.SocketAddr.{SocketAddr}
use Rattle.write_begin.specs.SaidLaws.{written_one}
use Rattle.write_raw.specs.Append.{answer, appended}
use Rattle.write_address.specs.Address.{address_refusal, address_attr}
use Rattle.write_address.proofs.append_address.Kinds as append_address_kinds
use Rattle.write_address.proofs.append_address.Reads as append_address_reads

pub determined-append_address : Determines append_address_kinds.ps append_address_kinds.r {I = List ℕ × ℕ × SocketAddr} {A = Result ℕ Refusal × List ℕ} append_address_reads.Asked append_address_reads.Learnt
    (λ κs a. (a.0.now, a.1.0, a.1.1.0)) (λ κs z e. (z, e.0.now))
determined-append_address =
    by append_address_kinds.ps append_address_kinds.r append_address_reads.Asked append_address_reads.Learnt _ _
    (λ x. (answer x.0 (address_refusal (rule_of rfc5389 x.1)) (address_attr rfc5389 x.0 x.1 x.2), appended x.0 (address_refusal (rule_of rfc5389 x.1)) (address_attr rfc5389 x.0 x.1 x.2)))
    (λ κs a y d i q. ap₂ (λ (u : Result ℕ Refusal) (v : List ℕ). (u, v)) (written_one q.0) q.1)
