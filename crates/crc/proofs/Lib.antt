mod Determined
mod Multiplied
pub mod BurstLaws
pub mod WindowLaws
pub mod BurstAtLaws
pub mod CrcLaws
pub mod ProductLaws
