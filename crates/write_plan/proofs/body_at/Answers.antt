use Rattle.header.specs.SaidLaws.{header_one}
use Rattle.write_plan.proofs.Fronts.{none_at, past_end, cut_at, covered_at}
use Rattle.write_plan.proofs.body_at.Goals as goal
use Rattle.write_plan.proofs.body_at.Goals.{else-size-d-via-then-size-d+else-covered, else-size-d-via-else-size-d}

pub returns-in_default : goal.returns-in_default
returns-in_default c = search (none_at, header_one)

pub returns-then-covered : goal.returns-then-covered
returns-then-covered c = search (covered_at, header_one)

pub returns : goal.returns
returns c =
    elim c.else-size-d.branch [
      | else-size-d-via-then-size-d+else-covered w ↦ search (cut_at, header_one)
      | else-size-d-via-else-size-d w ↦ search (past_end, header_one)
    ]
