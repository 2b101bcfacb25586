pub mod Accesses
pub mod Whole
pub mod Plays
