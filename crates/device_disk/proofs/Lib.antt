pub mod FrontLaws
pub mod PageHeadLaws
pub mod AskableLaws
