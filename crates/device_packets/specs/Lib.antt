pub mod Packets
pub mod Said
