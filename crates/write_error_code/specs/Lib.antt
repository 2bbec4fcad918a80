pub mod ErrorCode
pub mod ErrorCodeLaws
