pub mod Integrity
pub mod IntegrityLaws
