pub mod Pairs
pub mod Starting
pub mod Beginning
