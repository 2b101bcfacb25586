pub mod Requests
pub mod Slotted
pub mod Showing
pub mod Fitting
pub mod Causing
