pub mod EchoLaws
pub mod InPackets
pub mod PacketRuns
pub mod Bare
