use Rattle.std.proofs.Common.{arith}
use Rattle.utf8_spec.specs.Utf8Laws.{row}
use Rattle.utf8.proofs.Rows.{row_width, alone, none_between, none_above}
use Rattle.utf8.proofs.width_at.Goals as goal

pub returns-in-0-to-127 : goal.returns-in-0-to-127
returns-in-0-to-127 c = alone _ _ (omega arith) (omega arith)

pub returns-in-194-to-223 : goal.returns-in-194-to-223
returns-in-194-to-223 c = row_width (row 1 (omega arith)) _ _ _ (omega arith) (omega arith) (omega arith) c.width_by-in-194-to-223.ensures

pub returns-in-224 : goal.returns-in-224
returns-in-224 c = row_width (row 2 (omega arith)) _ _ _ (omega arith) (omega arith) (omega arith) c.width_by.ensures

pub returns-in-225-to-236 : goal.returns-in-225-to-236
returns-in-225-to-236 c = row_width (row 3 (omega arith)) _ _ _ (omega arith) (omega arith) (omega arith) c.width_by-in-225-to-236.ensures

pub returns-in-237 : goal.returns-in-237
returns-in-237 c = row_width (row 4 (omega arith)) _ _ _ (omega arith) (omega arith) (omega arith) c.width_by-in-237.ensures

pub returns-in-238-to-239 : goal.returns-in-238-to-239
returns-in-238-to-239 c = row_width (row 5 (omega arith)) _ _ _ (omega arith) (omega arith) (omega arith) c.width_by-in-238-to-239.ensures

pub returns-in-240 : goal.returns-in-240
returns-in-240 c = row_width (row 6 (omega arith)) _ _ _ (omega arith) (omega arith) (omega arith) c.width_by-in-240.ensures

pub returns-in-241-to-243 : goal.returns-in-241-to-243
returns-in-241-to-243 c = row_width (row 7 (omega arith)) _ _ _ (omega arith) (omega arith) (omega arith) c.width_by-in-241-to-243.ensures

pub returns-in-244 : goal.returns-in-244
returns-in-244 c = row_width (row 8 (omega arith)) _ _ _ (omega arith) (omega arith) (omega arith) c.width_by-in-244.ensures

pub returns-in_default : goal.returns-in_default
returns-in_default c = none_between _ _ (omega arith) (omega arith) (omega arith)

pub returns-in_default-2 : goal.returns-in_default-2
returns-in_default-2 c = none_above _ _ (omega arith) (omega arith)
