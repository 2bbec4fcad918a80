use mathlib.Core.Logic.{⊎_elim}
use Rattle.wire.specs.Refusal.{refused_by}
use Rattle.registry.specs.Fault.{rule_fault}
use Rattle.registry.proofs.rule_fault.Goals as goal

pub returns-in-Plain : goal.returns-in-Plain
unfolding refused_by rule_fault
returns-in-Plain c = rw c.in-Plain.is

pub returns-in-Address : goal.returns-in-Address
unfolding rule_fault
returns-in-Address c = ⊎_elim (λ e. rw e c.address_fault.ensures) (λ e. rw e c.address_fault.ensures) c.in-Address.is

pub returns-in-Code : goal.returns-in-Code
unfolding rule_fault
returns-in-Code c = rw c.in-Code.is c.code_fault.ensures

pub returns-in-Types : goal.returns-in-Types
unfolding rule_fault
returns-in-Types c = rw c.in-Types.is c.types_fault.ensures

pub returns-in-Text : goal.returns-in-Text
unfolding rule_fault
returns-in-Text c = rw c.in-Text.is c.text_fault.ensures
