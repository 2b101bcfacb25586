pub mod OwnPlanLaws
pub mod Taking
