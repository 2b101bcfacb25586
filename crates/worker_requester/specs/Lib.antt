pub mod Acking
pub mod Asking
pub mod Causes
