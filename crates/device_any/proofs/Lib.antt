pub mod KindLaws
pub mod SeatLaws
pub mod Histories
pub mod Growing
pub mod ManySeats
pub mod Uniting
