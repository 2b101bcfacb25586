pub mod Steps
pub mod Lasts
