pub mod Parts
pub mod Starting
pub mod Ends
pub mod Path
pub mod Told
