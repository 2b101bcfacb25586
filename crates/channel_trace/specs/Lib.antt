pub mod Runs
pub mod Laws
pub mod Kinds
pub mod Filled
