-- The asking worker, as contracts see it.
use Rattle.page_kept.specs.declared.item.Item.{Item}
use Rattle.std.specs.Prelude.{ℕ, ◌≡◌, ◌<◌, ◌≤◌, ◌+◌, ◌*◌, ◌^◌, ◌==◌, ◌⊎◌, Bool, true, false, List, [], ◌∷◌, ◌++◌, length, drop, filter, Option, Some, None, IsSome, All, is_some, slice_get}
use Rattle.std.specs.List.{count_by}
use Rattle.channel_trace.specs.declared.event.Event.{Event}
use Rattle.channel_trace.specs.declared.event.Event.TheVariants.{Sent, Got, Empty, Marked as EventMarked, Saw}
use Rattle.channel_trace.specs.Runs.{sent_of, got_of, has_marked, has_seen}
use Rattle.io_edge.specs.declared.side.Side.TheVariants.{Guest}
use Rattle.ring_machine.specs.declared.state.EndState.{EndState}
use Rattle.ring_core.specs.declared.told.Told.{Told}
use Rattle.ring_core.specs.Seen.{Seen}
use Rattle.ring_core.specs.Told.{Tale}
use Rattle.txn_table.specs.Open.{HasNone, request_of}
use Rattle.channel_model.specs.WireFormat.{WireFormat, listed}
use Rattle.channel_model.specs.Acks.{acks_for}
use Rattle.channel_model.specs.Amounts.{room_of, SendsKinds}
use Rattle.channel_model.specs.Asker.{requests_of, open_of, under}
use Rattle.channel_model.specs.Channel.{RequestPlan, asks_of, AskerEnds, AskerBreaks}
use Rattle.channel_model.specs.Workers.{AskerKept, AcksKept}
use Rattle.worker_port.specs.Line.{BrokeFor, IsBroken, IsReady, IsSameEnd, Line, SleepsFor, LacksTake}
use Rattle.worker_port.specs.Owed.{HasSendRoom, LacksSendOf, MetFull}
use Rattle.worker_port.specs.Tries.{FoundFull, LookedRested, LookedTriedRested, TriedLast}
use Rattle.worker_port.specs.Rooms.{AskedWithin, AskLacksFor, KeepsRoom}
use Rattle.worker_port.specs.declared.ended.Ended.{Ended}
use Rattle.worker_port.specs.declared.ended.Ended.TheVariants.{Marked, PeerMarked, Room, Broken as EndedBroken}
use Rattle.worker_port.specs.declared.ended.Turn.{Turn}
use Rattle.worker_port.specs.declared.ended.Turn.TheVariants.{Moved, Idle, Ended as TurnEnded}
use Rattle.worker_requester.specs.declared.requester.Blocked.{Blocked}
use Rattle.worker_requester.specs.declared.requester.Blocked.TheVariants.{Done as BlockedDone, Place as BlockedPlace, Answer as BlockedAnswer, Ack as BlockedAck, Room as BlockedRoom}
use Rattle.worker_requester.specs.declared.requester.Asked.{Asked}
use Rattle.worker_requester.specs.declared.requester.Asked.TheVariants.{Sent as AskedSent, Held as AskedHeld, Lacks as AskedLacks, Broken as AskedBroken}

-- the protocol, the end, the open requests by the number of their ask, the next ask, its id where it waits for room, how many of the packets that came were
-- looked at for messages to acknowledge, the replies, how many asks are the start-up's, whether the other end's mark was seen, why the last arm had nothing
-- to send, and the relid of the channel
pub record Asking (T S R : Type 0) : Type 0 where
  pub protocol : T
  pub end : Line S
  pub table : List (Option ℕ)
  pub next : ℕ
  pub waiting : Option ℕ
  pub acked : ℕ
  pub told : List R
  pub starts : ℕ
  pub seen : Bool
  pub hold : Blocked
  pub relid : ℕ

module _ {A : Type 0} where
  -- the ask of this number
  abbrev pub ask_at : List A → Option ℕ → Option A
  ask_at asks None = None
  ask_at asks (Some k) = slice_get asks k

  -- what is open under an id
  abbrev pub asked_in : List A → List (Option ℕ) → ℕ → Option A
  asked_in asks rs id = ask_at asks (request_of rs id)

  -- the next ask, under the id with which it waits
  abbrev pub waits_in : List A → Option ℕ → List (ℕ × A)
  waits_in todo None = []
  waits_in [] (Some id) = []
  waits_in (a ∷ todo) (Some id) = (id, a) ∷ []

-- the next ask waits under this id
abbrev pub waits_under : Option ℕ → ℕ → Bool
waits_under None id = false
waits_under (Some w) id = w == id

-- the id of the next ask: 0 where it has no answer
abbrev pub id_in : Option ℕ → ℕ
id_in None = 0
id_in (Some id) = id

-- a request with an answer is open under this id
abbrev pub is_open_in : {A Q R : Type 0} → WireFormat Item A Q R → List A → List (Event Item) → ℕ → Bool
is_open_in s asks past id = is_some (under s id (open_of s asks past))

-- each packet that came was looked at, and each message acknowledged
abbrev pub HasAcked : {T S R : Type 0} → Asking T S R → Type 0
HasAcked w = w.acked ≡ length w.end.state.got

-- the next packet that is to be looked at is a message
abbrev pub HasMessage : {T S A Q R : Type 0} → WireFormat Item A Q R → Asking T S R → Type 0
HasMessage s w = (m : Item) × (slice_get w.end.state.got w.acked ≡ Some m) × (s.is_message m ≡ true)

-- why nothing more is sent: all was, and a request is open; or the next ask has no id yet, and none is free, or an answer of the start-up is missing; or its
-- packet waits for the room in the ring that it needs; or what acknowledges a message does, which goes before any ask. The list of what was sent has room for it
abbrev pub Holds : {T S A Q R : Type 0} → WireFormat Item A Q R → List A → Blocked → Asking T S R → Type 0
Holds s asks BlockedDone w = (w.next ≡ length asks) × (0 < count_by is_some w.table) × HasAcked w
Holds s asks BlockedPlace w = (w.waiting ≡ None) × All IsSome w.table × HasAcked w
Holds s asks BlockedAnswer w = (w.waiting ≡ None) × (w.next ≤ w.starts) × (0 < count_by is_some w.table) × HasAcked w
Holds s asks (BlockedAck need) w = (m : Item) × (slice_get w.end.state.got w.acked ≡ Some m) × (s.is_message m ≡ true) × (need ≡ 8 * length (s.ack m).packet + 8) × (24 ≤ need) × (need ≤ 3080) × HasSendRoom (s.ack m).packet w.end
Holds {A = A} s asks (BlockedRoom need) w =
    (a : A) × (slice_get asks w.next ≡ Some a) × (is_some w.waiting ≡ s.has_answer a) × (need ≡ 8 * length (s.encode (id_in w.waiting) a).packet + 8) × (24 ≤ need) × (need ≤ 3080) × HasAcked w × HasSendRoom (s.encode (id_in w.waiting) a).packet w.end

-- the room in bytes that the next packet waits for
abbrev pub want_by : Blocked → Option ℕ
want_by (BlockedRoom need) = Some need
want_by (BlockedAck need) = Some need
want_by _ = None

-- each request was sent before the other end's mark was seen; and one of the start-up, of which there are so many, or the first one behind them, while no request
-- was open
abbrev pub IsPaced : {A Q R : Type 0} → WireFormat Item A Q R → ℕ → List A → List (Event Item) → Type 0
IsPaced s starts asks [] = Unit {0}
IsPaced s starts asks (Sent p ∷ past) = (s.is_request p ≡ true → (length (requests_of s past) ≤ starts → open_of s asks past ≡ []) × (has_seen past ≡ false)) × IsPaced s starts asks past
IsPaced s starts asks (Got p ∷ past) = IsPaced s starts asks past
IsPaced s starts asks (Empty ∷ past) = IsPaced s starts asks past
IsPaced s starts asks (EventMarked ∷ past) = IsPaced s starts asks past
IsPaced s starts asks (Saw ∷ past) = IsPaced s starts asks past

-- after this past a request goes under an id from 1 to so many under which none is open, while fewer than so many are open
pub record GoesFree {A Q R : Type 0} (s : WireFormat Item A Q R) (most : ℕ) (asks : List A) (p : Item) (past : List (Event Item)) : Type 0 where
  pub least : 1 ≤ s.id_of p
  pub within : s.id_of p ≤ most
  pub none : under s (s.id_of p) (open_of s asks past) ≡ None
  pub fewer : length (open_of s asks past) < most

-- each request that has an answer went so
abbrev pub AskedFrom : {A Q R : Type 0} → WireFormat Item A Q R → ℕ → List A → List (Event Item) → Type 0
AskedFrom s most asks [] = Unit {0}
AskedFrom s most asks (Sent p ∷ past) = (s.waits p ≡ true → GoesFree s most asks p past) × AskedFrom s most asks past
AskedFrom s most asks (Got p ∷ past) = AskedFrom s most asks past
AskedFrom s most asks (Empty ∷ past) = AskedFrom s most asks past
AskedFrom s most asks (EventMarked ∷ past) = AskedFrom s most asks past
AskedFrom s most asks (Saw ∷ past) = AskedFrom s most asks past

-- of what acknowledges the messages that came, in order, some is left that wasn't sent: nothing, or the first of it found too little room in the ring
pub record LeavesAcks {S A Q R : Type 0} (s : WireFormat Item A Q R) (e : Line S) : Type 0 where
  pub left : List Item
  pub acks : acks_for s (got_of e.state.past) ≡ filter s.is_ack (sent_of e.state.past) ++ left
  pub full : (left ≡ []) ⊎ MetFull left e

-- a channel has the data pages that a protocol uses whose requests have ids up to so many: none where its packets lend none; else one for each id, and the end that
-- asks is the guest's
pub record FitsPages (lends : Bool) (window : ℕ) (e : EndState) : Type 0 where
  pub bare : lends ≡ false → e.pages.count ≡ 0
  pub enough : lends ≡ true → window ≤ e.pages.count
  pub guest : lends ≡ true → e.machine.side ≡ Guest

-- while this end isn't marked
pub record IsAsking {T S A Q R : Type 0} (s : WireFormat Item A Q R) (asks : List A) (w : Asking T S R) : Type 0 where
  pub kept : AskerKept s asks w.end.state.past (drop w.next asks) (waits_in (drop w.next asks) w.waiting) (asked_in asks w.table) w.told
  pub acks : AcksKept s w.end.state.past (drop w.acked w.end.state.got)
  pub kinds : SendsKinds s w.end.state.past
  pub looked : w.acked ≤ length w.end.state.got
  pub within : w.next ≤ length asks
  pub places : (id k : ℕ) → request_of w.table id ≡ Some k → k < length asks
  pub asked : (id : ℕ) → w.waiting ≡ Some id → (a : A) × (slice_get asks w.next ≡ Some a) × (s.has_answer a ≡ true) × (id < 2 ^ 64)
  pub saw : has_seen w.end.state.past ≡ w.seen
  pub rests : w.end.state.machine.asleep ≡ true → Holds s asks w.hold w × SleepsFor (want_by w.hold) w.end × (w.seen ≡ false)
  pub paced : IsPaced s w.starts asks w.end.state.past
  pub alone : (id : ℕ) → w.waiting ≡ Some id → w.next ≤ w.starts → open_of s asks w.end.state.past ≡ []
  pub from : AskedFrom s (length w.table) asks w.end.state.past

-- what a request says to an answer, and to what came just before it where that was no answer
abbrev pub answer_of : {A Q R : Type 0} → WireFormat Item A Q R → Option A → Option Item → Item → List R
answer_of s None before p = []
answer_of s (Some a) before p = listed (s.result a before p)

-- all was asked, no request is open, and each message is acknowledged
pub record HasSettled {T S A R : Type 0} (asks : List A) (w : Asking T S R) : Type 0 where
  pub all : w.next ≡ length asks
  pub none : count_by is_some w.table ≡ 0
  pub acked : HasAcked w

-- where all was asked, a request is open
abbrev pub HasOpen : {T S A R : Type 0} → List A → Asking T S R → Type 0
HasOpen asks w = w.next ≡ length asks → 0 < count_by is_some w.table

-- the worker ended, for every plan with its requests
abbrev pub AsksAll : {A Q R : Type 0} → WireFormat Item A Q R → List A → List (Event Item) → List R → Type 0
AsksAll {A = A} s asks past told = (plan : RequestPlan A) → asks_of s plan ≡ asks → AskerEnds s plan past told

-- what a worker gives that ended so: it marked its end, and had seen the other end's mark or not
abbrev pub AsksBy : {A Q R : Type 0} → WireFormat Item A Q R → Ended → List A → List (Event Item) → List R → Type 0
AsksBy s Marked asks past told = AsksAll s asks past told × (has_marked past ≡ true) × (has_seen past ≡ false)
AsksBy s PeerMarked asks past told = AsksAll s asks past told × (has_marked past ≡ true) × (has_seen past ≡ true)
AsksBy s (Room packets words left) asks past told = AskerBreaks s asks past told
AsksBy s (EndedBroken why) asks past told = AskerBreaks s asks past told

-- what is to be sent next lacks room: what acknowledges a message, or the next ask
abbrev pub LacksNext : {T S A Q R : Type 0} → WireFormat Item A Q R → List A → ℕ → ℕ → Asking T S R → Type 0
LacksNext {A = A} s asks packets words w =
    ((m : Item) × (slice_get w.end.state.got w.acked ≡ Some m) × (s.is_message m ≡ true) × LacksSendOf packets words (s.ack m).packet w.end)
    ⊎ ((a : A) × (slice_get asks w.next ≡ Some a) × (is_some w.waiting ≡ s.has_answer a) × LacksSendOf packets words (s.encode (id_in w.waiting) a).packet w.end)

-- the next packet that comes lacks room, or the one that is sent next
abbrev pub AskerLacks : {T S A Q R : Type 0} → WireFormat Item A Q R → List A → ℕ → ℕ → Asking T S R → Type 0
AskerLacks s asks packets words w = LacksTake packets words w.end ⊎ LacksNext s asks packets words w

-- The table is empty, and after the other end's mark each message is acknowledged up to one that found no room; or the next packet that comes, or goes, lacks
-- room, and so more came than room was reserved for. What was sent are at most its asks, each under an id that was free, those of the start-up one at a time, and
-- one acknowledgement for each message
abbrev pub AskLacks : {T S A Q R : Type 0} → WireFormat Item A Q R → Bool → List A → Ended → Asking T S R → Type 0
AskLacks s besides asks Marked w =
    HasNone w.table × AskedWithin s (length asks) w.end.state.past × IsPaced s w.starts asks w.end.state.past × AskedFrom s (length w.table) asks w.end.state.past
AskLacks s besides asks PeerMarked w =
    HasNone w.table × LeavesAcks s w.end × AskedWithin s (length asks) w.end.state.past × IsPaced s w.starts asks w.end.state.past × AskedFrom s (length w.table) asks w.end.state.past
AskLacks s besides asks (Room packets words left) w =
    (left ≡ 0) × AskerLacks s asks packets words w × KeepsRoom (room_of besides (length asks)) w.end
    × AskLacksFor s besides (length asks) (Room packets words left) w.end.state.past × AskedWithin s (length asks) w.end.state.past × IsPaced s w.starts asks w.end.state.past
    × AskedFrom s (length w.table) asks w.end.state.past
AskLacks s besides asks (EndedBroken why) w =
    BrokeFor why w.end × AskedWithin s (length asks) w.end.state.past × IsPaced s w.starts asks w.end.state.past × AskedFrom s (length w.table) asks w.end.state.past

-- how a turn ends; one that is idle leaves the end asleep for what it holds, before the other end's mark was seen
abbrev pub AskTurns : {T S A Q R : Type 0} → WireFormat Item A Q R → Bool → List A → Turn → Asking T S R → Type 0
AskTurns s besides asks Moved w = w.end.state.machine.marked ≡ false
AskTurns s besides asks Idle w = (w.end.state.machine.marked ≡ false) × (w.end.state.machine.asleep ≡ true) × Holds s asks w.hold w × SleepsFor (want_by w.hold) w.end × (w.seen ≡ false)
AskTurns s besides asks (TurnEnded how) w = AsksBy s how asks w.end.state.past w.told × AskLacks s besides asks how w

-- of a turn that ends: what was sent, and when, and under which ids; and that room lacks only where more came than room was made for
abbrev pub AskEnds : {A Q R : Type 0} → WireFormat Item A Q R → Bool → ℕ → ℕ → List A → Turn → List (Event Item) → Type 0
AskEnds s besides starts window asks Moved past = Unit {0}
AskEnds s besides starts window asks Idle past = Unit {0}
AskEnds s besides starts window asks (TurnEnded how) past = AskedWithin s (length asks) past × AskLacksFor s besides (length asks) how past × IsPaced s starts asks past × AskedFrom s window asks past

-- how a worker left what it still had to acknowledge that ended after the other end's mark
abbrev pub EndsAcked : {S A Q R : Type 0} → WireFormat Item A Q R → Ended → Line S → Type 0
EndsAcked s Marked e = Unit {0}
EndsAcked s PeerMarked e = LeavesAcks s e
EndsAcked s (Room packets words left) e = Unit {0}
EndsAcked s (EndedBroken why) e = Unit {0}

-- none of these packets; or from an earlier end on the end did this alone: it looked for a packet and found none, tried the first of these and found too little
-- room for it, and marked itself
abbrev pub AreTried : {S : Type 0} → (S → Option Told) → (S → Tale) → List Item → Seen S → Seen S → Type 0
AreTried told tale [] old new = Unit {0}
AreTried told tale (p ∷ ps) old new = TriedLast told tale p.packet old new

-- what is left of what acknowledges the messages that came, in order, was tried since an earlier end
pub record LeavesTried {S A Q R : Type 0} (told : S → Option Told) (tale : S → Tale) (s : WireFormat Item A Q R) (old : Seen S) (e : Line S) : Type 0 where
  pub left : List Item
  pub acks : acks_for s (got_of e.state.past) ≡ filter s.is_ack (sent_of e.state.past) ++ left
  pub tried : AreTried told tale left old e.end

-- from an earlier end on the worker did this alone, and rests: it looked for a packet and found none; where the next packet waits for room it tried this packet, and
-- found too little; and it armed for the room that it needs, and found nothing
abbrev pub RestsTried : {T S A Q R : Type 0} → (S → Option Told) → (S → Tale) → WireFormat Item A Q R → List A → Blocked → Seen S → Asking T S R → Type 0
RestsTried told tale s asks BlockedDone old w = LookedRested told tale None old w.end.end
RestsTried told tale s asks BlockedPlace old w = LookedRested told tale None old w.end.end
RestsTried told tale s asks BlockedAnswer old w = LookedRested told tale None old w.end.end
RestsTried told tale s asks (BlockedAck need) old w =
    (m : Item) × (slice_get w.end.state.got w.acked ≡ Some m) × LookedTriedRested told tale (s.ack m).packet (Some need) old w.end.end
RestsTried {A = A} told tale s asks (BlockedRoom need) old w =
    (a : A) × (slice_get asks w.next ≡ Some a) × LookedTriedRested told tale (s.encode (id_in w.waiting) a).packet (Some need) old w.end.end

-- of a worker that ended so, from an earlier end on: after the other end's mark what is left to acknowledge was tried
abbrev pub EndTried : {S A Q R : Type 0} → (S → Option Told) → (S → Tale) → WireFormat Item A Q R → Ended → Seen S → Line S → Type 0
EndTried told tale s Marked old e = Unit {0}
EndTried told tale s PeerMarked old e = LeavesTried told tale s old e
EndTried told tale s (Room packets words left) old e = Unit {0}
EndTried told tale s (EndedBroken why) old e = Unit {0}

-- and that from some moment on of the end that it had first
pub record EverTried {S C A Q R : Type 0} (channel : S → C) (told : S → Option Told) (tale : S → Tale) (s : WireFormat Item A Q R) (how : Ended) (first : Seen S) (e : Line S) : Type 0 where
  pub before : Seen S
  pub same : IsSameEnd channel first before
  pub tried : EndTried told tale s how before e

-- of a turn of an end that was awake, from this end on: where it rests, the packet that waits for room was tried in it; and where it ended after the other end's mark,
-- what is left to acknowledge was
abbrev pub TurnTried : {T S A Q R : Type 0} → (S → Option Told) → (S → Tale) → WireFormat Item A Q R → List A → Turn → Seen S → Asking T S R → Type 0
TurnTried told tale s asks Moved old w = Unit {0}
TurnTried told tale s asks Idle old w = RestsTried told tale s asks w.hold old w
TurnTried told tale s asks (TurnEnded how) old w = EndTried told tale s how old w.end

-- the packet that waits for room was tried once, and found too little; where none waits the end made no call
abbrev pub HoldTried : {T S A Q R : Type 0} → (S → Option Told) → (S → Tale) → WireFormat Item A Q R → List A → Blocked → Seen S → Asking T S R → Type 0
HoldTried told tale s asks BlockedDone old w = w.end.end ≡ old
HoldTried told tale s asks BlockedPlace old w = w.end.end ≡ old
HoldTried told tale s asks BlockedAnswer old w = w.end.end ≡ old
HoldTried told tale s asks (BlockedAck need) old w = (m : Item) × (slice_get w.end.state.got w.acked ≡ Some m) × FoundFull told tale (s.ack m).packet old w.end.end
HoldTried {A = A} told tale s asks (BlockedRoom need) old w = (a : A) × (slice_get asks w.next ≡ Some a) × FoundFull told tale (s.encode (id_in w.waiting) a).packet old w.end.end

abbrev pub HeldTried : {T S A Q R : Type 0} → (S → Option Told) → (S → Tale) → WireFormat Item A Q R → List A → Asked → Seen S → Asking T S R → Type 0
HeldTried told tale s asks AskedSent old w = Unit {0}
HeldTried told tale s asks (AskedHeld hold) old w = HoldTried told tale s asks hold old w
HeldTried told tale s asks (AskedLacks packets words) old w = Unit {0}
HeldTried told tale s asks AskedBroken old w = Unit {0}

-- the first of what is left to acknowledge was tried once, and found too little room
pub record AckFull {S A Q R : Type 0} (told : S → Option Told) (tale : S → Tale) (s : WireFormat Item A Q R) (old : Seen S) (e : Line S) : Type 0 where
  pub packet : Item
  pub rest : List Item
  pub acks : acks_for s (got_of e.state.past) ≡ filter s.is_ack (sent_of e.state.past) ++ packet ∷ rest
  pub full : FoundFull told tale packet.packet old e.end

abbrev pub AckTried : {S A Q R : Type 0} → (S → Option Told) → (S → Tale) → WireFormat Item A Q R → Asked → Seen S → Line S → Type 0
AckTried told tale s AskedSent old e = Unit {0}
AckTried told tale s (AskedHeld hold) old e = AckFull told tale s old e
AckTried told tale s (AskedLacks packets words) old e = Unit {0}
AckTried told tale s AskedBroken old e = Unit {0}

-- the next packet was sent, or why it wasn't
abbrev pub AskedBy : {T S A Q R : Type 0} → WireFormat Item A Q R → List A → Asked → Asking T S R → Type 0
AskedBy s asks AskedSent w = Unit {0}
AskedBy s asks (AskedHeld hold) w = Holds s asks hold w
AskedBy s asks AskedBroken w = Unit {0}
AskedBy s asks (AskedLacks packets words) w = LacksNext s asks packets words w × (got_of w.end.state.past ≡ w.end.state.got)

-- where what acknowledges a message waits for room, it found too little
abbrev pub HeldAcks : {S A Q R : Type 0} → WireFormat Item A Q R → Asked → Line S → Type 0
HeldAcks s AskedSent e = Unit {0}
HeldAcks s (AskedHeld hold) e = LeavesAcks s e
HeldAcks s (AskedLacks packets words) e = Unit {0}
HeldAcks s AskedBroken e = Unit {0}

-- the end can begin a call, unless it broke
abbrev pub StandsAsked : {S : Type 0} → Asked → Line S → Type 0
StandsAsked AskedSent e = IsReady e
StandsAsked (AskedHeld hold) e = IsReady e
StandsAsked (AskedLacks packets words) e = IsReady e
StandsAsked AskedBroken e = IsBroken e

-- the same worker, with as many places in its table
pub record AsksOn {T S R C : Type 0} (channel : S → C) (told : S → Option Told) (old new : Asking T S R) : Type 0 where
  pub protocol : new.protocol ≡ old.protocol
  pub relid : new.relid ≡ old.relid
  pub starts : new.starts ≡ old.starts
  pub window : length new.table ≡ length old.table
  pub end : IsSameEnd channel old.end.end new.end.end
  pub tells : is_some (told new.end.seat) ≡ is_some (told old.end.seat)

-- a request that waits stands in the table already
abbrev pub pending : Option ℕ → ℕ
pending None = 0
pending (Some id) = 1
