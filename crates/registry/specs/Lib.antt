pub mod Rows
pub mod Fault
pub mod FaultLaws
pub mod SaidLaws
pub mod AddressLaws
pub mod ErrorCode
pub mod ErrorCodeLaws
