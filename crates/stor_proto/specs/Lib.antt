pub mod Operations
pub mod Packets
pub mod Fields
pub mod Opening
pub mod Srbs
