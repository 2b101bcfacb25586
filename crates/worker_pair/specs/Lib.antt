pub mod Seats
pub mod Plans
pub mod Workers
pub mod Leaving
pub mod Pairs
