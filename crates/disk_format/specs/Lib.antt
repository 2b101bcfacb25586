pub mod Disks
pub mod PageDisks
