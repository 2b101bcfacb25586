pub mod PoolLaws
pub mod RunLaws
pub mod TextLaws
pub mod AskLaws
pub mod WriteLaws
pub mod ReplyLaws
pub mod SpelledLaws
