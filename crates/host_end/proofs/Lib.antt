mod ListLaws
mod EndLaws
pub mod SideLaws
