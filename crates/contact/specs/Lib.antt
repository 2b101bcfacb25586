pub mod Versions
pub mod Classes
pub mod Services
