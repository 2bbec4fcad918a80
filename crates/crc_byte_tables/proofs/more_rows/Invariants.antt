use Rattle.std.proofs.Common.{◌-◌, ◌≤◌}
use Rattle.crc_byte_tables.proofs.Making.{Making}
use Rattle.crc_byte_tables.proofs.more_rows.Given as goal

abbrev pub invariant-loop-i : goal.invariant-loop-i
invariant-loop-i l = Making 2048 l.w l.i × (256 ≤ l.i)

abbrev pub decreases-loop-i : goal.decreases-loop-i
decreases-loop-i l = 2048 - l.i
