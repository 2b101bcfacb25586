pub mod Types
pub mod Messages
pub mod Grammar
pub mod Faults
pub mod Reading
