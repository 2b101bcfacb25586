pub mod KeyLaws
pub mod MapLaws
pub mod TextLaws
pub mod KeptLaws
