pub mod Orders
pub mod Channel
pub mod Run
pub mod Laws
pub mod Worked
