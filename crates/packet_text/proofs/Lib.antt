pub mod PartLaws
pub mod ItemLaws
