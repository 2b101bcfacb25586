pub mod Listed
pub mod Echo
pub mod Paged
