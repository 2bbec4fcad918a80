use Rattle.read_typed.proofs.Fields.{no_ip, ip}
use Rattle.read_typed.proofs.ip_of.Goals as goal

pub returns-then-v-lt4 : goal.returns-then-v-lt4
returns-then-v-lt4 c = search (no_ip, ip)

pub returns : goal.returns
returns c = search (no_ip, ip)
