pub mod Messages
pub mod MessageWriting
pub mod Packets
pub mod PacketWriting
