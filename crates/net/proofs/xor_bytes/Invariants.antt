use Rattle.std.proofs.Common.{◌≡◌, take}
use Rattle.net.specs.Net.{xored}
use Rattle.net.proofs.xor_bytes.Given as goal

abbrev pub invariant-loop-i : goal.invariant-loop-i
invariant-loop-i l = l.buf ≡ xored l.fn.buf (take l.i l.mask)
