pub mod Beginnings
pub mod Keeping
pub mod Words
pub mod Printed
pub mod Texts
