pub mod Places
pub mod Forms
pub mod Rows
pub mod Marks
pub mod Help
pub mod Explained
