pub mod Sides
pub mod Standing
