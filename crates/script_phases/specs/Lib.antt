pub mod Says
pub mod Agreed
pub mod Openings
pub mod Shares
pub mod Laws
