-- What a contract sees of an end.
use Rattle.std.specs.Prelude.{◌≡◌, ◌≤◌, ◌+◌, ℕ, Bool, true, false, min, List}
use Rattle.ring_machine.specs.declared.machine.Ending.{Ending}
use Rattle.ring_machine.specs.Steps.{is_sent}
use Rattle.ring_machine.specs.declared.state.EndState.{EndState}
use Rattle.ring_core.specs.declared.room.Room.{Room}

-- the state, the seat, and the spare room of the two lists of packets
pub record Seen (S : Type 0) : Type 0 where
  pub state : EndState
  pub seat : S
  pub spare_sent : Room
  pub spare_got : Room

-- rows of words, and the room that is reserved for more
pub record Rowed : Type 0 where
  pub list : List (List ℕ)
  pub room : Room

-- A list of packets, the page words of each, whether they are kept, for how many packets more room was made, the room for more packets, and the room of the page
-- words
pub record Listed : Type 0 where
  pub list : List (List ℕ)
  pub lent : List (List ℕ)
  pub paged : Bool
  pub places : ℕ
  pub room : Room
  pub lent_room : Room

-- the room for packets: the lesser of both, where page words are kept, and for no more packets than room was made for
abbrev pub room_in : Bool → ℕ → Room → Room → Room
room_in false places rows lent = rows
room_in true places rows lent = record { packets = min (min rows.packets lent.packets) places; words = min rows.words lent.words }

abbrev pub listed_in : Bool → ℕ → Rowed → Rowed → Listed
listed_in paged places rows lent = record { list = rows.list; lent = lent.list; paged = paged; places = places; room = room_in paged places rows.room lent.room; lent_room = lent.room }

-- a send of n words that ended so takes at most one packet and these words of spare room, and none where it sent nothing
pub record SentRoom (how : Ending) (n : ℕ) (old new : Room) : Type 0 where
  pub same : is_sent how ≡ false → new ≡ old
  pub packets : old.packets ≤ new.packets + 1
  pub words : old.words ≤ new.words + n

-- the lists and their spare room stay
pub record Kept {S : Type 0} (old new : Seen S) : Type 0 where
  pub sent : new.state.sent ≡ old.state.sent
  pub got : new.state.got ≡ old.state.got
  pub spare_sent : new.spare_sent ≡ old.spare_sent
  pub spare_got : new.spare_got ≡ old.spare_got
  pub pages : new.state.pages ≡ old.state.pages

-- a page call changes neither the machine, nor the lists of packets, nor the past
pub record KeptByPages {S : Type 0} (old new : Seen S) : Type 0 where
  pub machine : new.state.machine ≡ old.state.machine
  pub sent : new.state.sent ≡ old.state.sent
  pub got : new.state.got ≡ old.state.got
  pub past : new.state.past ≡ old.state.past
  pub spare_sent : new.spare_sent ≡ old.spare_sent
