pub mod LineLaws
mod EarlierLaws
