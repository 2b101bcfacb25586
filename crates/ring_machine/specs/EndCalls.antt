-- The calls of an end.

-- none; those of its rings; a look for the peer's mark; a store of a page word; a load of lent words
pub data EndCall : Type 0 where
  NoCall : EndCall
  Send : EndCall
  Take : EndCall
  Commit : EndCall
  Arm : EndCall
  Poll : EndCall
  Mark : EndCall
  PeerMark : EndCall
  StorePage : EndCall
  LoadLent : EndCall
