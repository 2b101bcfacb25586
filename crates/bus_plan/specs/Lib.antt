pub mod Heard
pub mod Endings
pub mod Plans
pub mod Outcomes
pub mod Served
