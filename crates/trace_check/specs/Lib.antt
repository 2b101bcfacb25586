pub mod Watching
pub mod Following
pub mod Reading
pub mod Checks
pub mod Text
