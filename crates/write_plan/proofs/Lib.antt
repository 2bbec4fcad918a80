mod Fronts
mod Plans
mod Determined
pub mod PlanLaws
