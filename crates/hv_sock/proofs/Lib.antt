pub mod StreamLaws
pub mod PacketLaws
pub mod CallLaws
