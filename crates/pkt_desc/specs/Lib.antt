pub mod Packets
pub mod Ranges
pub mod Lending
pub mod Built
pub mod Faults
