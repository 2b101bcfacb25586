pub mod Cutting
pub mod Numbers
pub mod Steps
pub mod HexNumbers
