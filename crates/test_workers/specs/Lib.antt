pub mod Swap
pub mod SwapLaws
