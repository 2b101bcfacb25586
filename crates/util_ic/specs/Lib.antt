pub mod Messages
pub mod Versions
pub mod Answers
pub mod Machines
pub mod Asks
pub mod Packets
