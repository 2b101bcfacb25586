pub mod Words
pub mod Forms
pub mod Hex
pub mod Runs
