pub mod Digits
pub mod Pieces
pub mod Names
pub mod Text
pub mod Output
pub mod Layouts
pub mod Prints
