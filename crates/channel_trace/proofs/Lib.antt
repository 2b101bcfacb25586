pub mod Filling
pub mod Fronts
pub mod Pasts
pub mod RunLaws
pub mod Steps
