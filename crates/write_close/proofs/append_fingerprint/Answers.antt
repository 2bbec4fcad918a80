use Rattle.std.proofs.Common.{◌<◌, ap, arith}
use Rattle.write_begin.specs.Begin.{written_said}
use Rattle.write_begin.specs.SaidLaws.{written_one}
use Rattle.write_close.proofs.Sums.{print_answer, print_buffer}
use Rattle.write_close.proofs.append_fingerprint.Goals as goal

pub returns : goal.returns
returns c =
    let small : c.fingerprint_at.result < 4294967296 = omega (arith, c.fingerprint_at.type_inv) in
    (ap written_said (search (print_answer, written_one, small)), search (print_buffer, small))
