pub mod Cut
pub mod Assembly
pub mod Whole
