pub mod ServiceLaws
pub mod KindLaws
