pub mod Finished
pub mod FinishedLaws
pub mod Compression
pub mod CompressionLaws
pub mod Sha1
pub mod Sha1Laws
