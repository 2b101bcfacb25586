pub mod ByteLaws
pub mod PacketLaws
pub mod LoanLaws
pub mod SaidLaws
