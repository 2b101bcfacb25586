pub mod ByteLaws
pub mod VersionLaws
pub mod AskLaws
pub mod AnswerLaws
pub mod TableLaws
pub mod PacketLaws
