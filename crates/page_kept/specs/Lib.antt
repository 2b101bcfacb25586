pub mod Items
pub mod Layouts
pub mod Kept
pub mod Stepped
pub mod Counts
pub mod Keepers
