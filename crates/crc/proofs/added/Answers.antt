use Rattle.crc.proofs.Multiplied.{clear}
use Rattle.crc.proofs.added.Goals as goal

pub returns-then-t-lt2147483648 : goal.returns-then-t-lt2147483648
returns-then-t-lt2147483648 c = search (clear)
