-- The contracts of the public calls determine what they answer.
use Rattle.std.specs.Prelude.{ℕ, List, Option, Result}
use Rattle.base.specs.DeterminedLaws.{by}
use Rattle.base.specs.Determined.{Determines}
use Rattle.wire.specs.Refusal.{refused_by}
use Rattle.wire.specs.declared.refusal.Refusal.{Refusal}
use Rattle.registry.specs.Rows.{look, rfc5389, rule_in}
use Rattle.registry.specs.Fault.{entry_fault, fault}
use Rattle.registry.specs.SaidLaws.{entry_one, rule_one}
use Rattle.registry.specs.declared.Rule.{Rule}
use Rattle.registry.specs.declared.Row.{Row}
use Rattle.registry.proofs.entry_of.Kinds as entries_kinds
use Rattle.registry.proofs.entry_of.Reads as entries_reads
use Rattle.registry.proofs.entry_rule.Kinds as rule_kinds
use Rattle.registry.proofs.entry_rule.Reads as rule_reads
use Rattle.registry.proofs.entry_fault.Kinds as judged_kinds
use Rattle.registry.proofs.entry_fault.Reads as judged_reads
use Rattle.registry.proofs.fault.Kinds as faults_kinds
use Rattle.registry.proofs.fault.Reads as faults_reads

pub determined-entry_of : Determines entries_kinds.ps entries_kinds.r {I = ℕ} {A = Option Row} entries_reads.Asked entries_reads.Learnt (λ κs a. a.0) (λ κs z e. z)
determined-entry_of = by entries_kinds.ps entries_kinds.r entries_reads.Asked entries_reads.Learnt _ _ (look rfc5389) (λ κs a y d i q. entry_one q)

pub determined-entry_rule : Determines rule_kinds.ps rule_kinds.r {I = Option Row} {A = Rule} rule_reads.Asked rule_reads.Learnt (λ κs a. a.0) (λ κs z e. z)
determined-entry_rule = by rule_kinds.ps rule_kinds.r rule_reads.Asked rule_reads.Learnt _ _ rule_in (λ κs a y d i q. rule_one q)

pub determined-entry_fault : Determines judged_kinds.ps judged_kinds.r {I = Option Row × List ℕ} {A = Result Unit Refusal} judged_reads.Asked judged_reads.Learnt
    (λ κs a. (a.0, a.1.0.now)) (λ κs z e. z)
determined-entry_fault = by judged_kinds.ps judged_kinds.r judged_reads.Asked judged_reads.Learnt _ _ (λ x. refused_by (entry_fault x.0 x.1)) (λ κs a y d i q. q)

pub determined-fault : Determines faults_kinds.ps faults_kinds.r {I = ℕ × List ℕ} {A = Result Unit Refusal} faults_reads.Asked faults_reads.Learnt
    (λ κs a. (a.0, a.1.0.now)) (λ κs z e. z)
determined-fault = by faults_kinds.ps faults_kinds.r faults_reads.Asked faults_reads.Learnt _ _ (λ x. refused_by (fault rfc5389 x.0 x.1)) (λ κs a y d i q. q)
