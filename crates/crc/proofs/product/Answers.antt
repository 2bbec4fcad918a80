use Rattle.crc.proofs.Multiplied.{fifth}
use Rattle.crc.proofs.product.Goals as goal

pub returns-then-t-eq134217728 : goal.returns-then-t-eq134217728
returns-then-t-eq134217728 c = search (fifth)
