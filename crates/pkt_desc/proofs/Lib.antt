pub mod PayloadLaws
pub mod PacketLaws
pub mod RangeLaws
pub mod RoundLaws
