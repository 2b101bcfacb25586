pub mod Firsts
pub mod Orders
