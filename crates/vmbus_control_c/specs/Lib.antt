pub mod Offers
pub mod PageLists
