pub mod PortLaws
pub mod PieceLaws
pub mod WorkerLaws
pub mod Leaving
