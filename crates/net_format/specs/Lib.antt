pub mod Nets
pub mod PageNets
