pub mod AsSide
pub mod Handles
pub mod Told
