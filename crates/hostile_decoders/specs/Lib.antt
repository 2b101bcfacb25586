pub mod Packets
pub mod Storage
pub mod Lists
pub mod Parts
