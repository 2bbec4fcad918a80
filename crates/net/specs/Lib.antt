pub mod Net
pub mod NetLaws
