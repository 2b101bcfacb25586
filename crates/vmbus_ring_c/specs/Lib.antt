pub mod Numbers
pub mod Sound
pub mod Ends
pub mod Lines
