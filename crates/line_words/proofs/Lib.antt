pub mod HexNumbers
