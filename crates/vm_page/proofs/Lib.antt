pub mod WordLaws
pub mod CutLaws
