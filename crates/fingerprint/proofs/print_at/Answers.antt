use Rattle.std.proofs.Common.{arith}
use Rattle.fingerprint.proofs.Sums.{summed, as_it_stands}
use Rattle.fingerprint.proofs.print_at.Goals as goal

pub returns-then-u16_at-n : goal.returns-then-u16_at-n
returns-then-u16_at-n c =
    let bs = c.shared_slice_known-1.given in
    search (as_it_stands c.args.d.now (λ i. omega (arith, bs i)))

pub returns : goal.returns
returns c = search (summed)
