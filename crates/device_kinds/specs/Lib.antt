pub mod Served
pub mod Logs
pub mod Kinds
pub mod Formats
