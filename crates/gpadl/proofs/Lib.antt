pub mod Bodies
pub mod Cutting
