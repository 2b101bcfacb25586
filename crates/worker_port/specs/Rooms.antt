-- The room of an end's lists of packets, and how much comes and goes.
use Rattle.std.specs.Prelude.{ℕ, ◌≡◌, ◌<◌, ◌≤◌, ◌+◌, ◌*◌, ◌⊎◌, Bool, true, false, List, [], ◌∷◌, length, filter, is_some}
use Rattle.channel_trace.specs.declared.event.Event.{Event}
use Rattle.channel_trace.specs.Laws.{AreOfOneRun}
use Rattle.channel_trace.specs.Runs.{sent_of, got_of}
use Rattle.page_kept.specs.declared.item.Item.{Item}
use Rattle.worker_port.specs.Line.{BrokeFor, Line, page_places, page_words}
use Rattle.channel_model.specs.WireFormat.{WireFormat}
use Rattle.channel_model.specs.Amounts.{room_of, besides_of, AsksAtMost, ServesAtMost}
use Rattle.worker_port.specs.declared.ended.Ended.{Ended}
use Rattle.worker_port.specs.declared.ended.Ended.TheVariants.{Marked, PeerMarked, Room, Broken}
use Rattle.worker_port.specs.declared.ended.Turn.{Turn}
use Rattle.worker_port.specs.declared.ended.Turn.TheVariants.{Moved, Idle, Ended as TurnEnded}

-- the words of these packets
abbrev pub words_in : List Item → ℕ
words_in [] = 0
words_in (p ∷ ps) = length p.packet + words_in ps

-- each packet has at most 384 words
abbrev pub AreShort : List Item → Type 0
AreShort [] = Unit {0}
AreShort (p ∷ ps) = (length p.packet ≤ 384) × AreShort ps

-- more came than room was made for: more packets of 384 words than `room`, more words in all, or more of one kind than `most`
pub record CameOver (kind : Item → Bool) (most room : ℕ) (past : List (Event Item)) : Type 0 where
  pub over : (room < length (got_of past)) ⊎ ((384 * room < words_in (got_of past)) ⊎ (most < length (filter kind (got_of past))))

-- more packets came that ask the device than so many
abbrev pub AskedOver : (Item → Bool) → ℕ → List (Event Item) → Type 0
AskedOver asks serve past = serve < length (filter asks (got_of past))

-- the places for so many packets of a channel with c data pages, and for the page words of each
abbrev pub places_for : ℕ → ℕ → ℕ
places_for c n = n + page_places c n

-- the words of these packets, and of a page with each
abbrev pub words_with : ℕ → List Item → ℕ
words_with c ps = words_in ps + page_words c (length ps)

-- The room that was reserved for what comes, some of which is used up by what came: one packet more than so many, and the words of a whole ring besides
-- 384 for each. In a channel with data pages there are the words of a page for each packet, and a place for them
pub record HasReserved {S : Type 0} (room : ℕ) (e : Line S) : Type 0 where
  pub packets : places_for e.end.state.pages.count (room + 1) ≤ e.spare_got.packets + places_for e.end.state.pages.count (length e.state.got)
  pub words : 384 * room + (e.state.machine.cells + page_words e.end.state.pages.count (room + 1)) ≤ e.spare_got.words + words_with e.end.state.pages.count e.state.got

-- the room that was reserved for what goes, some of which is used up by what went
pub record HasReservedSent {S : Type 0} (room : ℕ) (e : Line S) : Type 0 where
  pub packets : room ≤ e.spare_sent.packets + length (sent_of e.state.past)
  pub words : 384 * room + page_words e.end.state.pages.count room ≤ e.spare_sent.words + words_with e.end.state.pages.count (sent_of e.state.past)
  pub short : AreShort (sent_of e.state.past)

-- a worker keeps within its room: as many packets come and go
pub record KeepsRoom {S : Type 0} (room : ℕ) (e : Line S) : Type 0 where
  pub got : HasReserved room e
  pub sent : HasReservedSent room e

-- what is left of the room for what comes shrinks by what came alone
pub record GotInto {S : Type 0} (old new : Line S) : Type 0 where
  pub pages : new.end.state.pages.count ≡ old.end.state.pages.count
  pub packets : old.spare_got.packets + places_for old.end.state.pages.count (length old.state.got) ≤ new.spare_got.packets + places_for old.end.state.pages.count (length new.state.got)
  pub words : old.spare_got.words + words_with old.end.state.pages.count old.state.got ≤ new.spare_got.words + words_with old.end.state.pages.count new.state.got

-- a packet that is sent takes its room at most, and that of a page with it
pub record SentInto {S : Type 0} (words : ℕ) (old new : Line S) : Type 0 where
  pub packets : old.spare_sent.packets ≤ new.spare_sent.packets + 1
  pub words_is : old.spare_sent.words ≤ new.spare_sent.words + (words + page_words old.end.state.pages.count 1)

-- it ended, and not for want of room
abbrev pub has_room : Ended → Bool
has_room Marked = true
has_room PeerMarked = true
has_room (Room packets words left) = false
has_room (Broken why) = true

-- it ended since the end is broken
abbrev pub is_broken : Ended → Bool
is_broken Marked = false
is_broken PeerMarked = false
is_broken (Room packets words left) = false
is_broken (Broken why) = true

-- and so did the turn
abbrev pub broke : Turn → Bool
broke Moved = false
broke Idle = false
broke (TurnEnded how) = is_broken how

-- a worker that ended since its end is broken says why that is so
abbrev pub SaysWhy : {S : Type 0} → Ended → Line S → Type 0
SaysWhy Marked e = Unit {0}
SaysWhy PeerMarked e = Unit {0}
SaysWhy (Room packets words left) e = Unit {0}
SaysWhy (Broken why) e = BrokeFor why e

-- what holds where messages may go back besides the answers, and else not
abbrev pub OnlyWith : Bool → Type 0 → Type 0
OnlyWith false Holds = ⊥
OnlyWith true Holds = Holds

module _ {A Q R : Type 0} (s : WireFormat Item A Q R) where
  -- a packet asks the device for something
  abbrev pub is_asked : Item → Bool
  is_asked p = is_some (s.read p)

  -- what the end that asks sent: no more requests than so many, no more acknowledgements than messages came, and each of at most 384 words
  pub record AskedWithin (most : ℕ) (past : List (Event Item)) : Type 0 where
    pub kinds : AsksAtMost s most past
    pub short : AreShort (sent_of past)

  -- what the end that serves sent: at most one answer for each request that came, a message besides only where there are messages, and each of at most 384 words
  pub record ServedWithin (besides : Bool) (past : List (Event Item)) : Type 0 where
    pub kinds : ServesAtMost s besides past
    pub short : AreShort (sent_of past)

  -- a worker that asks so much ended for want of room only where more came than it made room for
  abbrev pub AskLacksFor : Bool → ℕ → Ended → List (Event Item) → Type 0
  AskLacksFor besides asks Marked past = Unit {0}
  AskLacksFor besides asks PeerMarked past = Unit {0}
  AskLacksFor besides asks (Room packets words left) past = CameOver s.is_message (besides_of besides asks) (room_of besides asks) past
  AskLacksFor besides asks (Broken why) past = Unit {0}

  -- and one that serves, with room for so many requests, there, or where more was asked of the device than it serves and it doesn't stop behind that
  abbrev pub ServeLacksFor : Bool → ℕ → ℕ → Bool → Ended → List (Event Item) → Type 0
  ServeLacksFor besides most serve stops Marked past = Unit {0}
  ServeLacksFor besides most serve stops PeerMarked past = Unit {0}
  ServeLacksFor besides most serve stops (Room packets words left) past = CameOver s.is_request most (room_of besides most) past ⊎ ((stops ≡ false) × AskedOver is_asked serve past)
  ServeLacksFor besides most serve stops (Broken why) past = Unit {0}

  -- Two ends of one run. The one that asks made room for its asks, and the one that serves for as many or more, and each for the messages and what acknowledges
  -- them, where there are messages; it asked no more of the device than the other one serves, unless that one stops. Then neither ended for want of room, or
  -- of a call
  abbrev pub NeverLacks : Type 0
  NeverLacks =
      (besides : Bool) (asks most serve : ℕ) (stops : Bool) (asker server : List (Event Item)) (asked served : Ended)
      → asks ≤ most → (stops ≡ false → length (filter is_asked (sent_of asker)) ≤ serve) → AreOfOneRun asker server
      → AskedWithin asks asker → AskLacksFor besides asks asked asker → ServedWithin besides server → ServeLacksFor besides most serve stops served server
      → (has_room asked ≡ true) × (has_room served ≡ true)
