pub mod PacketRuns
pub mod Joining
