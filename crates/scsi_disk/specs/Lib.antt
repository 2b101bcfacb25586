pub mod BigEndian
pub mod Commands
pub mod DiskModel
pub mod FiniteMap
pub mod Room
pub mod Stored
