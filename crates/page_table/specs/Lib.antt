pub mod Table
pub mod Ids
