pub mod Seats
pub mod MachineBoxes
pub mod Boxes
pub mod Heads
