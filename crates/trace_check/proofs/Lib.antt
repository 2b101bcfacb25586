pub mod Leads
pub mod Following
pub mod Lines
pub mod Checked
