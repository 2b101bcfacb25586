pub mod RunCounts
pub mod OneByte
pub mod DataLines
pub mod SeatReplies
pub mod Along
pub mod Seats
pub mod Replies
pub mod FewBack
