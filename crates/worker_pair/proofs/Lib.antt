pub mod Opening
pub mod Going
pub mod NewEnds
pub mod Roles
