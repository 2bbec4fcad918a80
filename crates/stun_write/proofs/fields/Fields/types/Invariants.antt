use Rattle.std.proofs.Common.{length, ◌≤◌}
use Rattle.stun_write.proofs.fields.Fields.types.Given as goal

abbrev pub invariant-loop-t : goal.invariant-loop-t
invariant-loop-t l =
    record {
      iterator : (goal.iterator-loop-t).can_next l.t-iterator × (goal.iterator-loop-t).is_finite l.t-iterator;
      inside : l.at ≤ length l.out;
    }
