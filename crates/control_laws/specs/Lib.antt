pub mod Over
pub mod Sides
pub mod Laws
pub mod Rows
pub mod Plain
