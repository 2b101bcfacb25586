pub mod Places
pub mod Ranges
pub mod Rows
pub mod Faults
pub mod Inputs
pub mod First
pub mod Reads
pub mod StepOrder
