-- What waits, with the next word taken through its steps.
use Rattle.std.proofs.Common.{arith, rules}
use Rattle.std.proofs.lemmas.Nat.{xor_lt}
use Rattle.crc_folds.specs.Waits.{register}
use Rattle.crc_folds.proofs.Waits.{settle_is}
use Rattle.crc_folds.proofs.settle.Goals as goal

pub returns : goal.returns
unfolding register
returns c = search (settle_is)

pub overflow_cast-high : goal.overflow_cast-high
overflow_cast-high c = omega (arith, xor_lt 64 c.args.f.a c.args.w (search rules) (search rules))
