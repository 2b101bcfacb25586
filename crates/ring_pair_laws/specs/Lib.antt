pub mod Ring
pub mod Spelled
pub mod Results
pub mod Lists
pub mod Pair
pub mod Signals
pub mod Calls
