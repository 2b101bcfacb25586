pub mod Steps
pub mod Recording
pub mod Going
