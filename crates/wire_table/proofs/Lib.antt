pub mod FaultLaws
pub mod LittleLemmas
pub mod NumberLaws
pub mod PutLaws
pub mod RowLaws
pub mod TableLemmas
