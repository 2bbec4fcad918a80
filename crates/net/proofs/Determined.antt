-- The contract of each public call determines its answer and each byte of a lent buffer.
use Rattle.std.specs.Prelude.{ℕ, List}
use Rattle.base.specs.DeterminedLaws.{by}
use Rattle.base.specs.Determined.{Determines}
use Rattle.wire.specs.declared.transaction_id.TransactionId.{TransactionId}
use Rattle.net.specs.Net.{family_number, ip_size, xored, addr_xor}
use Rattle.net.specs.declared.Family.{Family}
use Rattle.net.specs.declared.SocketAddr.{SocketAddr}
use Rattle.net.proofs.Family.as_u8.Kinds as as_u8_kinds
use Rattle.net.proofs.Family.as_u8.Reads as as_u8_reads
use Rattle.net.proofs.Family.ip_size.Kinds as ip_size_kinds
use Rattle.net.proofs.Family.ip_size.Reads as ip_size_reads
use Rattle.net.proofs.xor_bytes.Kinds as xor_bytes_kinds
use Rattle.net.proofs.xor_bytes.Reads as xor_bytes_reads
use Rattle.net.proofs.socket_addr_xor.Kinds as addr_xor_kinds
use Rattle.net.proofs.socket_addr_xor.Reads as addr_xor_reads

pub determined-Family-as_u8 : Determines as_u8_kinds.ps as_u8_kinds.r {I = Family} {A = ℕ} as_u8_reads.Asked as_u8_reads.Learnt (λ κs a. a.0) (λ κs z e. z)
determined-Family-as_u8 = by as_u8_kinds.ps as_u8_kinds.r as_u8_reads.Asked as_u8_reads.Learnt _ _ family_number (λ κs a y d i q. q)

pub determined-Family-ip_size : Determines ip_size_kinds.ps ip_size_kinds.r {I = Family} {A = ℕ} ip_size_reads.Asked ip_size_reads.Learnt (λ κs a. a.0) (λ κs z e. z)
determined-Family-ip_size = by ip_size_kinds.ps ip_size_kinds.r ip_size_reads.Asked ip_size_reads.Learnt _ _ ip_size (λ κs a y d i q. q)

pub determined-xor_bytes : Determines xor_bytes_kinds.ps xor_bytes_kinds.r {I = List ℕ × List ℕ} {A = List ℕ} xor_bytes_reads.Asked xor_bytes_reads.Learnt
    (λ κs a. (a.0.now, a.1.0.now)) (λ κs z e. e.0.now)
determined-xor_bytes = by xor_bytes_kinds.ps xor_bytes_kinds.r xor_bytes_reads.Asked xor_bytes_reads.Learnt _ _ (λ x. xored x.0 x.1) (λ κs a y d i q. q)

pub determined-socket_addr_xor : Determines addr_xor_kinds.ps addr_xor_kinds.r {I = SocketAddr × TransactionId} {A = SocketAddr} addr_xor_reads.Asked addr_xor_reads.Learnt
    (λ κs a. (a.0, a.1.0)) (λ κs z e. z)
determined-socket_addr_xor = by addr_xor_kinds.ps addr_xor_kinds.r addr_xor_reads.Asked addr_xor_reads.Learnt _ _ (λ x. addr_xor x.0 x.1) (λ κs a y d i q. q)
