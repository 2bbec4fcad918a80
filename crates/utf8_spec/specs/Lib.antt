pub mod Utf8
pub mod Utf8Laws
pub mod Scalars
pub mod Points
pub mod PointsLaws
