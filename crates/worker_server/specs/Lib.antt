pub mod Serving
pub mod Sheets
pub mod Causes
