pub mod Registers
pub mod RegisterLaws
pub mod Beside
