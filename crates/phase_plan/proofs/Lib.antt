pub mod Cutting
pub mod Hearing
pub mod Noting
pub mod Channels
pub mod Ending
pub mod Opens
