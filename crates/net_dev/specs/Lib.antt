pub mod Nvsp
pub mod NvspReading
pub mod Objects
pub mod Station
