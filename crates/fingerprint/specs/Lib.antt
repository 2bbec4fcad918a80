pub mod Fingerprint
pub mod FingerprintLaws
pub mod Register
pub mod RegisterLaws
