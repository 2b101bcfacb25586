pub mod Tried
pub mod Short
pub mod Told
