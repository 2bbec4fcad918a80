use Rattle.std.proofs.Common.{rules, sym}
use Rattle.read_fingerprints.proofs.Faults.{other, sized, right, wrong, at_15}
use Rattle.read_fingerprints.proofs.print_fault.Goals as goal

pub returns-then-kind-ne-FINGERPRINT : goal.returns-then-kind-ne-FINGERPRINT
returns-then-kind-ne-FINGERPRINT c = (sym (search (other)), search rules)

pub returns-then-size-ne4 : goal.returns-then-size-ne4
returns-then-size-ne4 c = at_15 (search (sized))

pub returns-then-is_there : goal.returns-then-is_there
returns-then-is_there c = (sym (search (right)), search rules)

pub returns : goal.returns
returns c = at_15 (search (wrong))
