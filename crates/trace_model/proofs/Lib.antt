pub mod Leading
pub mod Verdicts
