pub mod Tables
pub mod NextLaws
pub mod CameLaws
pub mod AskSteps
pub mod OpenLaws
pub mod AckLaws
pub mod HomeSteps
pub mod BareLaws
