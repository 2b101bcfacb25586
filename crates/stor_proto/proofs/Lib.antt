pub mod FieldLaws
pub mod PacketLaws
pub mod SrbLaws
