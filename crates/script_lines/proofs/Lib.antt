pub mod Phases
pub mod Scripts
pub mod Drafts
pub mod Carrying
pub mod Fitting
pub mod OneByOne
pub mod Firsts
pub mod Plain
