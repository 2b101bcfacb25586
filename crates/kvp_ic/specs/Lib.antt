pub mod Machine
pub mod Runs
pub mod Texts
pub mod Messages
pub mod Faults
pub mod Answers
