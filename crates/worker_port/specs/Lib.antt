pub mod Rooms
pub mod Line
pub mod Tries
pub mod Owed
pub mod Causes
pub mod Homes
