pub mod Pages
pub mod Moves
pub mod Laws
