-- The serving worker, as contracts see it.
use Rattle.page_kept.specs.declared.item.Item.{Item}
use Rattle.std.specs.Prelude.{ℕ, ◌≡◌, ◌<◌, ◌≤◌, ◌+◌, ◌-◌, Bool, true, false, not, ◌&&◌, ◌==◌, ◌⊎◌, List, [], ◌∷◌, ◌++◌, length, filter, map, take, drop, slice_get, Option, Some, None, IsSome, All, is_some, if◌then◌else◌}
use Rattle.std.specs.Option.{option_map_or}
use Rattle.channel_trace.specs.declared.event.Event.{Event}
use Rattle.channel_trace.specs.Runs.{IsFront, sent_of, got_of, has_marked, has_seen}
use Rattle.hist_lock.specs.Seat.{Call}
use Rattle.io_edge.specs.declared.side.Side.{Side}
use Rattle.ring_core.specs.declared.told.Told.{Told}
use Rattle.ring_core.specs.Seen.{Seen}
use Rattle.ring_core.specs.Told.{Tale}
use Rattle.txn_table.specs.Open.{HasNone, request_of}
use Rattle.channel_model.specs.WireFormat.{WireFormat}
use Rattle.channel_model.specs.Acks.{is_in, OwnFrom, AllOwnOpen}
use Rattle.channel_model.specs.Amounts.{room_of}
use Rattle.channel_model.specs.Server.{Serves}
use Rattle.channel_model.specs.Channel.{RequestPlan, count_of, held_of, ServerEnds, ServerBreaks}
use Rattle.channel_model.specs.Workers.{left_after, ServerKept, OwnKept}
use Rattle.worker_port.specs.Line.{BrokeFor, IsBroken, IsReady, IsSameEnd, LacksTake, Line, SleepsFor}
use Rattle.worker_port.specs.Owed.{Written, is_nil, need_of, HasSendRoom, LacksSend, MetFull}
use Rattle.worker_port.specs.Tries.{FoundFull, LookedRested, TriedLast, TriedLookedRested}
use Rattle.worker_port.specs.Rooms.{ServedWithin, ServeLacksFor, KeepsRoom, OnlyWith, is_asked}
use Rattle.worker_port.specs.declared.ended.Ended.{Ended}
use Rattle.worker_port.specs.declared.ended.Ended.TheVariants.{Marked, PeerMarked, Room, Broken as EndedBroken}
use Rattle.worker_port.specs.declared.ended.Turn.{Turn}
use Rattle.worker_port.specs.declared.ended.Turn.TheVariants.{Moved, Idle, Ended as TurnEnded}
use Rattle.worker_server.specs.declared.put.Given.{Given}
use Rattle.worker_server.specs.declared.put.Given.TheVariants.{Sent as GivenSent, Full as GivenFull, Lacks as GivenLacks, Broken as GivenBroken}

-- the protocol, the seat with the calls that it had made before, and those of this worker and their serials, the messages of its own that are open or owed, what is
-- owed, as it is read and as it is written, whether the last answer is held, how many requests are still to be served, and the side and the relid that the gate is told
pub record Responder (T S Q R : Type 0) : Type 0 where
  pub protocol : T
  pub seat : S
  pub before : List (Call Q R)
  pub calls : List (Call Q R)
  pub table : List (Option ℕ)
  pub owed : List Item
  pub sheets : List Written
  pub left : Option ℕ
  pub held : Bool
  pub serials : List ℕ
  pub side : Side
  pub relid : ℕ

-- the responder and the end; how many requests are to be served, whether this end stops then, how many requests of the start-up have answers, for how many
-- packets besides these it made room, and how many of the start-up's are still missing; how many of the packets that were got are served; whether the other end's mark was seen; and what the last arm waits for
pub record Serving (T S E Q R : Type 0) : Type 0 where
  pub responder : Responder T S Q R
  pub end : Line E
  pub serve : ℕ
  pub stops : Bool
  pub starts : ℕ
  pub come : ℕ
  pub missing : ℕ
  pub served : ℕ
  pub seen : Bool
  pub want : Option ℕ

-- of a seat's calls, those before the last ones, and the last ones, of which there are so many
abbrev pub first_calls : {Q R : Type 0} → List (Call Q R) → ℕ → List (Call Q R)
first_calls calls n = take (length calls - n) calls

abbrev pub last_calls : {Q R : Type 0} → List (Call Q R) → ℕ → List (Call Q R)
last_calls calls n = drop (length calls - n) calls

-- of a seat's calls, those behind others
abbrev pub calls_behind : {Q R : Type 0} → List (Call Q R) → List (Call Q R) → List (Call Q R)
calls_behind before calls = drop (length before) calls

-- an id stands in the table
abbrev pub own_in : List (Option ℕ) → ℕ → Bool
own_in rs id = is_some (request_of rs id)

-- each place of the table is taken
abbrev pub IsFull : List (Option ℕ) → Type 0
IsFull rs = All IsSome rs

-- the seat, or a list with room, has the calls that are left
abbrev pub HasCalls : Option ℕ → ℕ → Type 0
HasCalls None spare = Unit {0}
HasCalls (Some m) spare = m ≤ spare

-- one packet is served, where packets still are
abbrev pub ServesPacket : {A Q R : Type 0} → WireFormat Item A Q R → Bool → Item → Option ℕ → List (Call Q R) → List (Call Q R) → List Item → Option ℕ → Type 0
ServesPacket s held p None calls calls' owed left = (calls' ≡ calls) × (owed ≡ []) × (left ≡ None)
ServesPacket {Q = Q} {R = R} s held p (Some m) calls calls' owed left = (cs : List (Call Q R)) × Serves s held (p ∷ []) m cs owed × (calls' ≡ calls ++ cs) × (left ≡ left_after s held (s.read p) (Some m))

-- all that is to be served was
abbrev pub has_served : Option ℕ → Bool
has_served None = true
has_served (Some m) = m == 0

-- the worker stops, no request of the start-up is missing, and all that is to be served was
abbrev pub has_done : {T S E Q R : Type 0} → Serving T S E Q R → Bool
has_done w = (w.stops && (w.missing == 0)) && has_served w.responder.left

-- all that was got is served; or it waits for an id of its own, since under each a message is open, which only an acknowledgement closes
abbrev pub HasServed : {T S E A Q R : Type 0} → WireFormat Item A Q R → Bool → Serving T S E Q R → Type 0
HasServed s besides w = (w.served ≡ length w.end.state.got) ⊎ OnlyWith besides (AllOwnOpen s 64 w.end.state.past)

-- all that was got is served, and there is more to do than to stop; or something that was got waits for an id of its own
abbrev pub HasToWait : {T S E A Q R : Type 0} → WireFormat Item A Q R → Bool → Serving T S E Q R → Type 0
HasToWait s besides w = ((w.served ≡ length w.end.state.got) × (has_done w ≡ false)) ⊎ ((w.served < length w.end.state.got) × OnlyWith besides (AllOwnOpen s 64 w.end.state.past))

-- the list of what was sent has room for the first of these packets, if there is one
abbrev pub HasRoomFor : {E : Type 0} → List Item → Line E → Type 0
HasRoomFor [] e = Unit {0}
HasRoomFor (p ∷ ps) e = HasSendRoom p.packet e

-- asleep before the other end's mark was seen, with the need of the packet that waits as its want, for which the list of what was sent has room; where none
-- waits there is nothing that it could serve
pub record Rests {T S E A Q R : Type 0} (s : WireFormat Item A Q R) (besides : Bool) (w : Serving T S E Q R) : Type 0 where
  pub want : w.want ≡ need_of w.responder.owed
  pub armed : SleepsFor w.want w.end
  pub room : HasRoomFor w.responder.owed w.end
  pub waits : is_nil w.responder.owed ≡ true → HasToWait s besides w
  pub unseen : w.seen ≡ false

pub record IsServing {T S E A Q R : Type 0} (s : WireFormat Item A Q R) (besides : Bool) (w : Serving T S E Q R) : Type 0 where
  pub kept : ServerKept s w.responder.held w.serve w.end.state.past w.responder.calls w.responder.owed w.responder.left (drop w.served w.end.state.got)
  pub own : w.end.state.machine.marked ≡ false → OwnKept s w.end.state.past w.responder.owed (own_in w.responder.table)
  pub from : OwnFrom s 64 w.end.state.past
  pub places : length w.responder.table ≡ 64
  pub within : w.served ≤ length w.end.state.got
  pub few : length w.responder.owed ≤ 2
  pub missing_is : w.missing ≡ w.starts - length (filter s.waits (filter s.is_request (got_of w.end.state.past)))
  pub saw : has_seen w.end.state.past ≡ w.seen
  pub rests : w.end.state.machine.asleep ≡ true → Rests s besides w
  pub each : w.stops ≡ false → length (filter (is_asked s) (take w.served w.end.state.got)) ≡ length w.responder.calls

-- an acknowledgement closes its id, unless the message is only owed; after any other packet the table is as before
pub record Closes {A Q R : Type 0} (s : WireFormat Item A Q R) (owed : List Item) (p : Item) (table table' : List (Option ℕ)) : Type 0 where
  pub acked : s.is_ack p ≡ true → is_in (s.id_of p) (map s.id_of (filter s.is_message owed)) ≡ false → (j : ℕ) → own_in table' j ≡ (if j == s.id_of p then false else own_in table j)
  pub early : s.is_ack p ≡ true → is_in (s.id_of p) (map s.id_of (filter s.is_message owed)) ≡ true → table' ≡ table
  pub other : s.is_ack p ≡ false → table' ≡ table

-- the packet that is served next asks the device, no call is left for it, and the worker doesn't stop behind its last call
abbrev pub lacks_call : {T S E A Q R : Type 0} → WireFormat Item A Q R → Serving T S E Q R → Bool
lacks_call s w = not w.stops && (has_served w.responder.left && option_map_or (is_asked s) (slice_get w.end.state.got w.served) false)

-- the worker was made for this plan
pub record Orders {T S E A Q R : Type 0} (s : WireFormat Item A Q R) (plan : RequestPlan A) (w : Serving T S E Q R) : Type 0 where
  pub serve : w.serve ≡ count_of plan.stop (length plan.script)
  pub held : w.responder.held ≡ held_of plan.stop (length plan.script)
  pub stops : w.stops ≡ is_some plan.stop
  pub starts : w.starts ≡ length (filter s.has_answer plan.start)

-- the worker ended, for every plan that it was made for
abbrev pub EndsAll : {T S E A Q R : Type 0} → WireFormat Item A Q R → Serving T S E Q R → List (Event Item) → List (Call Q R) → Type 0
EndsAll {A = A} s w past calls = (plan : RequestPlan A) → Orders s plan w → ServerEnds s plan past calls

abbrev pub BreaksOff : {T S E A Q R : Type 0} → WireFormat Item A Q R → Serving T S E Q R → List (Event Item) → List (Call Q R) → Type 0
BreaksOff s w past calls = ServerBreaks s w.responder.held w.serve past calls

-- each packet that came and asks the device was a call, where the worker doesn't stop behind some
abbrev pub CallsEach : {T S E A Q R : Type 0} → WireFormat Item A Q R → Serving T S E Q R → List (Event Item) → List (Call Q R) → Type 0
CallsEach s w past calls = w.stops ≡ false → length (filter (is_asked s) (got_of past)) ≡ length calls

-- all that came was served, and all that goes back for it was sent
pub record AnswersAll {T S E A Q R : Type 0} (s : WireFormat Item A Q R) (w : Serving T S E Q R) (past : List (Event Item)) (calls : List (Call Q R)) : Type 0 where
  pub serves : Serves s w.responder.held (got_of past) w.serve calls (sent_of past)
  pub each : CallsEach s w past calls

-- the first packets that came were served, and of what goes back for them the last packets are missing, at most two: for the first of these the end's machine keeps too
-- little room
pub record LetsGo {T S E A Q R : Type 0} (s : WireFormat Item A Q R) (w : Serving T S E Q R) (e : Line E) (calls : List (Call Q R)) : Type 0 where
  pub served : List Item
  pub first : IsFront served (got_of e.state.past)
  pub missing : List Item
  pub serves : Serves s w.responder.held served w.serve calls (sent_of e.state.past ++ missing)
  pub few : length missing ≤ 2
  pub full : MetFull missing e

-- the first packets that came were served, and all that goes back for them was sent; the others aren't served, since a message is open under each id
pub record LacksPlace {T S E A Q R : Type 0} (s : WireFormat Item A Q R) (w : Serving T S E Q R) (past : List (Event Item)) (calls : List (Call Q R)) : Type 0 where
  pub served : List Item
  pub first : IsFront served (got_of past)
  pub serves : Serves s w.responder.held served w.serve calls (sent_of past)
  pub full : AllOwnOpen s 64 past

-- and from an earlier end on it did this alone: it looked for a packet and found none, tried the first packet that is missing and found too little room for it, and
-- marked its end
pub record LetsGoTried {T S E A Q R : Type 0} (told : E → Option Told) (tale : E → Tale) (s : WireFormat Item A Q R) (w : Serving T S E Q R) (old : Seen E) (e : Line E) (calls : List (Call Q R)) : Type 0 where
  pub goes : LetsGo s w e calls
  pub tried : TriedLast told tale goes.full.packet.packet old e.end

-- how it left off that ended after the other end's mark: all is answered, or the first packet that is missing found no room, which the other end makes no more;
-- or a place of the table is missing, which it makes no more either
abbrev pub LeftOff : {T S E A Q R : Type 0} → WireFormat Item A Q R → Bool → Serving T S E Q R → Line E → List (Call Q R) → Type 0
LeftOff s besides w e calls = (AnswersAll s w e.state.past calls ⊎ LetsGo s w e calls) ⊎ OnlyWith besides (LacksPlace s w e.state.past calls)

-- what a worker gives that ended so, with its end: it marked that, and had seen the other end's mark or not. Where it had not, all is answered. Each message went
-- under an id from 1 to 64 under which none was open
abbrev pub EndsBy : {T S E A Q R : Type 0} → WireFormat Item A Q R → Bool → Ended → Serving T S E Q R → Line E → List (Call Q R) → Type 0
EndsBy s besides Marked w e calls =
    EndsAll s w e.state.past calls × AnswersAll s w e.state.past calls × OwnFrom s 64 e.state.past × (has_marked e.state.past ≡ true) × (has_seen e.state.past ≡ false)
EndsBy s besides PeerMarked w e calls =
    EndsAll s w e.state.past calls × LeftOff s besides w e calls × OwnFrom s 64 e.state.past × (has_marked e.state.past ≡ true) × (has_seen e.state.past ≡ true)
EndsBy s besides (Room packets words left) w e calls = BreaksOff s w e.state.past calls × OwnFrom s 64 e.state.past
EndsBy s besides (EndedBroken why) w e calls = BreaksOff s w e.state.past calls × OwnFrom s 64 e.state.past

-- how it left off from an earlier end on, where it ended after the other end's mark: what is missing was tried since
abbrev pub LeavesTried : {T S E A Q R : Type 0} → (E → Option Told) → (E → Tale) → WireFormat Item A Q R → Bool → Ended → Serving T S E Q R → Seen E → Line E → List (Call Q R) → Type 0
LeavesTried told tale s besides Marked w old e calls = Unit {0}
LeavesTried told tale s besides PeerMarked w old e calls = (AnswersAll s w e.state.past calls ⊎ LetsGoTried told tale s w old e calls) ⊎ OnlyWith besides (LacksPlace s w e.state.past calls)
LeavesTried told tale s besides (Room packets words left) w old e calls = Unit {0}
LeavesTried told tale s besides (EndedBroken why) w old e calls = Unit {0}

-- and that from some moment on of the end that it had first
pub record EverTried {T S E C A Q R : Type 0} (channel : E → C) (told : E → Option Told) (tale : E → Tale) (s : WireFormat Item A Q R) (besides : Bool) (how : Ended) (w : Serving T S E Q R) (e : Line E) (calls : List (Call Q R)) : Type 0 where
  pub before : Seen E
  pub same : IsSameEnd channel w.end.end before
  pub tried : LeavesTried told tale s besides how w before e calls

-- how a worker has ended that marked its end, by whether it had seen the other end's mark
abbrev pub marked_by : Bool → Ended
marked_by true = PeerMarked
marked_by false = Marked

-- no call is left for what came: these are the numbers of the list of what was got
pub record LacksCall {T S E A Q R : Type 0} (s : WireFormat Item A Q R) (packets words : ℕ) (w : Serving T S E Q R) : Type 0 where
  pub owed : w.responder.owed ≡ []
  pub lacks : lacks_call s w ≡ true
  pub packets_is : packets ≡ w.end.spare_got.packets
  pub words_is : words ≡ w.end.spare_got.words

-- a packet that is owed, or the next one that comes, lacks the room of the list that it would grow, or what came lacks a call
abbrev pub Lacks : {T S E A Q R : Type 0} → WireFormat Item A Q R → ℕ → ℕ → Serving T S E Q R → Type 0
Lacks s packets words w = (LacksSend packets words w.responder.owed w.end ⊎ LacksTake packets words w.end) ⊎ LacksCall s packets words w

-- where it ends after the other end's mark it owes nothing, with all that came served; or it owes at most two packets, of which the first found no room,
-- which the other end makes no more; or it owes nothing, and a message is open under each id
abbrev pub LeavesOff : {T S E A Q R : Type 0} → WireFormat Item A Q R → Bool → Serving T S E Q R → Type 0
LeavesOff s besides w =
    (((w.responder.owed ≡ []) × (w.served ≡ length w.end.state.got) × CallsEach s w w.end.state.past w.responder.calls) ⊎ (MetFull w.responder.owed w.end × (length w.responder.owed ≤ 2)))
    ⊎ OnlyWith besides ((w.responder.owed ≡ []) × AllOwnOpen s 64 w.end.state.past)

-- Its table is empty; how much it sent, and what it let go; and where it lacks room or a call, what the seat has left, and that more came than room or calls were
-- made for
abbrev pub LacksRoom : {T S E A Q R : Type 0} → (S → ℕ) → WireFormat Item A Q R → Bool → Ended → Serving T S E Q R → Type 0
LacksRoom left_at s besides Marked w = HasNone w.responder.table × ServedWithin s besides w.end.state.past
LacksRoom left_at s besides PeerMarked w = HasNone w.responder.table × ServedWithin s besides w.end.state.past × LeavesOff s besides w
LacksRoom left_at s besides (Room packets words left) w =
    Lacks s packets words w × (left ≡ left_at w.responder.seat) × KeepsRoom (room_of besides (w.starts + w.come)) w.end
    × ServeLacksFor s besides (w.starts + w.come) w.serve w.stops (Room packets words left) w.end.state.past × ServedWithin s besides w.end.state.past
LacksRoom left_at s besides (EndedBroken why) w = BrokeFor why w.end × ServedWithin s besides w.end.state.past

-- of a turn that ends: what was sent is no more than what came asks for, and room or a call lacks only where more came than there was made for
abbrev pub ServeEnds : {T S E A Q R : Type 0} → WireFormat Item A Q R → Bool → Turn → Serving T S E Q R → Type 0
ServeEnds s besides Moved w = Unit {0}
ServeEnds s besides Idle w = Unit {0}
ServeEnds s besides (TurnEnded how) w = ServedWithin s besides w.end.state.past × ServeLacksFor s besides (w.starts + w.come) w.serve w.stops how w.end.state.past

-- how a turn ends
abbrev pub Turns : {T S E A Q R : Type 0} → (S → ℕ) → WireFormat Item A Q R → Bool → Turn → Serving T S E Q R → Type 0
Turns left_at s besides Moved w = w.end.state.machine.marked ≡ false
Turns left_at s besides Idle w = (w.end.state.machine.marked ≡ false) × (w.end.state.machine.asleep ≡ true) × Rests s besides w
Turns left_at s besides (TurnEnded how) w = EndsBy s besides how w w.end w.responder.calls × LacksRoom left_at s besides how w

-- from an earlier end on the worker did this alone, and rests: it tried the first of these packets, if there is one, and found too little room for it; it looked for a
-- packet and found none; and it armed for this room, and found nothing
abbrev pub RestsTried : {S : Type 0} → (S → Option Told) → (S → Tale) → List Item → Option ℕ → Seen S → Seen S → Type 0
RestsTried told tale [] want old new = LookedRested told tale want old new
RestsTried told tale (p ∷ ps) want old new = TriedLookedRested told tale p.packet want old new

-- of a turn of an end that was awake, from this end on: where it rests, the packet that waits for room was tried in it; and where it ended after the other end's mark,
-- what is missing was
abbrev pub TurnTried : {T S E A Q R : Type 0} → (E → Option Told) → (E → Tale) → WireFormat Item A Q R → Bool → Turn → Seen E → Serving T S E Q R → Type 0
TurnTried told tale s besides Moved old w = Unit {0}
TurnTried told tale s besides Idle old w = RestsTried told tale w.responder.owed w.want old w.end.end
TurnTried told tale s besides (TurnEnded how) old w = LeavesTried told tale s besides how w old w.end w.responder.calls

-- the first of these packets was tried once, and found too little room
pub record FirstFull {S : Type 0} (told : S → Option Told) (tale : S → Tale) (owed : List Item) (old new : Seen S) : Type 0 where
  pub packet : Item
  pub rest : List Item
  pub first : owed ≡ packet ∷ rest
  pub full : FoundFull told tale packet.packet old new

-- the same, where there is one; where there is none the end made no call
abbrev pub OwedTried : {S : Type 0} → (S → Option Told) → (S → Tale) → List Item → Seen S → Seen S → Type 0
OwedTried told tale [] old new = new ≡ old
OwedTried told tale (p ∷ ps) old new = FoundFull told tale p.packet old new

-- a packet that is owed was sent, or nothing changed
abbrev pub GaveOne : {T S E Q R : Type 0} → Given → Serving T S E Q R → Serving T S E Q R → Type 0
GaveOne GivenSent old new = Unit {0}
GaveOne GivenFull old new = (new.responder ≡ old.responder) × (new.served ≡ old.served) × (new.end.state.got ≡ old.end.state.got) × (new.seen ≡ old.seen) × (new.end.state.past ≡ old.end.state.past) × MetFull new.responder.owed new.end × HasRoomFor new.responder.owed new.end
GaveOne (GivenLacks packets words) old new = LacksSend packets words new.responder.owed new.end × (got_of new.end.state.past ≡ new.end.state.got)
GaveOne GivenBroken old new = Unit {0}

-- the end can begin a call, unless it broke
abbrev pub StandsGiven : {E : Type 0} → Given → Line E → Type 0
StandsGiven GivenSent e = IsReady e
StandsGiven GivenFull e = IsReady e
StandsGiven (GivenLacks packets words) e = IsReady e
StandsGiven GivenBroken e = IsBroken e

-- the same worker, with the same orders
pub record ServesOn {T S E Q R C : Type 0} (same : S → S → Type 0) (channel : E → C) (told : E → Option Told) (old new : Serving T S E Q R) : Type 0 where
  pub protocol : new.responder.protocol ≡ old.responder.protocol
  pub relid : new.responder.relid ≡ old.responder.relid
  pub held : new.responder.held ≡ old.responder.held
  pub serve : new.serve ≡ old.serve
  pub stops : new.stops ≡ old.stops
  pub starts : new.starts ≡ old.starts
  pub come : new.come ≡ old.come
  pub before : new.responder.before ≡ old.responder.before
  pub end : IsSameEnd channel old.end.end new.end.end
  pub tells : is_some (told new.end.seat) ≡ is_some (told old.end.seat)
  pub seat : same old.responder.seat new.responder.seat
