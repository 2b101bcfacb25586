pub mod Made
pub mod Taken
pub mod Ringed
pub mod Words
pub mod Turning
pub mod New
