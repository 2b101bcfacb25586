pub mod FaultLaws
pub mod PartLaws
pub mod ReadLaws
pub mod WriteLaws
