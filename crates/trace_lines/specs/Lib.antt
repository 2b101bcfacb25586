pub mod Numbers
pub mod Places
pub mod Steps
pub mod Ranges
pub mod Rows
pub mod Faults
pub mod Traces
pub mod First
