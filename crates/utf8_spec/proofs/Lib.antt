pub mod ScalarsLaws
pub mod BijectionLaws
