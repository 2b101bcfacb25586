pub mod Answers
pub mod Slots
pub mod Ids
pub mod Ends
pub mod Shown
pub mod Causes
