pub mod Little
pub mod Rows
pub mod Tables
