pub mod Back
pub mod Naming
pub mod Sounding
