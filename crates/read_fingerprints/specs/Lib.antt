pub mod Fingerprints
pub mod FingerprintsLaws
pub mod Running
