pub mod Dealing
pub mod Seating
pub mod Following
