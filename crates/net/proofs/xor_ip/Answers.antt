use Rattle.net.proofs.Xoring.{ip_16}
use Rattle.net.proofs.xor_ip.Goals as goal

pub returns-in-Ipv6 : goal.returns-in-Ipv6
returns-in-Ipv6 c = search (ip_16)
