use Rattle.std.proofs.Common.{ℕ, ◌-◌, ◌≤◌, length}
use Rattle.crc_folds.specs.Waits.{register, Waits}
use Rattle.crc_folds.proofs.take_words.Given as goal

abbrev pub invariant-loop-i : goal.invariant-loop-i
invariant-loop-i g l = (l.i ≤ length l.s) × ((v : ℕ) → Waits v l.s (register l.fn.f) l.i-2 → Waits v l.s (register l.g) l.i)

abbrev pub decreases-loop-i : goal.decreases-loop-i
decreases-loop-i g l = length l.s - l.i
