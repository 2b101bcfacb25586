pub mod RoomLaws
pub mod OfferLaws
pub mod SideLaws
pub mod HandleLaws
pub mod ToldLaws
