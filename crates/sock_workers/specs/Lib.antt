pub mod Pieces
pub mod Ports
pub mod Workers
