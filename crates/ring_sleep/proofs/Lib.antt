pub mod SleepLaws
pub mod Telling
