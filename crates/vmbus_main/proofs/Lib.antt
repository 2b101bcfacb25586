pub mod Parting
pub mod Refusing
mod Opened
