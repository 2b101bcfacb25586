pub mod CodecLaws
pub mod LiftedLaws
pub mod WireLaws
pub mod ProtocolLaws
