pub mod OwedLaws
pub mod ResponderLaws
pub mod OwnLaws
pub mod ServeSteps
pub mod PageLaws
pub mod HomeSteps
pub mod PageSteps
pub mod TableLaws
