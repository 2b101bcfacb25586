pub mod Feeding
pub mod AsSide
