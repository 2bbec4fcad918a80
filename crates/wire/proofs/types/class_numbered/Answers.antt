use Rattle.wire.proofs.Classes.{arm_0, arm_1, arm_2, arm_rest}
use Rattle.wire.proofs.types.class_numbered.Goals as goal

pub returns-in-0 : goal.returns-in-0
returns-in-0 c = search (arm_0)

pub returns-in-1 : goal.returns-in-1
returns-in-1 c = search (arm_1)

pub returns-in-2 : goal.returns-in-2
returns-in-2 c = search (arm_2)

pub returns-in_default : goal.returns-in_default
returns-in_default c = search (arm_rest)
