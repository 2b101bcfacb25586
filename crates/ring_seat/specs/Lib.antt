pub mod Points
pub mod Waking
pub mod Rule
pub mod Lawful
pub mod Seats
pub mod Settling
pub mod PageRule
pub mod Whole
