pub mod Disks
pub mod Versions
