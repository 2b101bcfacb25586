-- A guest's control: what it waits for, what it does about each message, and what it refuses.
use Rattle.std.specs.Prelude.{◌≡◌, ℕ, ◌+◌, ◌-◌, ◌==◌, ◌<◌, Bool, true, false, not, ◌&&◌, ◌||◌, List, [], ◌∷◌, ◌++◌, length, slice_get, nat_le, Option, Some, None, is_some, filter, map, Result, Ok, Err, if◌then◌else◌}
use Rattle.std.specs.List.{position_from}
use Rattle.contact.specs.declared.version.Version.{Version}
use Rattle.contact.specs.declared.part.Part.{Part}
use Rattle.contact.specs.declared.part.Part.TheVariants.{Contact, PhaseStart, PhaseEnd, Unload}
use Rattle.contact.specs.declared.kind.Kind.{Kind}
use Rattle.contact.specs.declared.kind.Kind.TheVariants.{Disk, Sock}
use Rattle.contact.specs.declared.channel_offer.OfferFault.TheVariants.{Class}
use Rattle.contact.specs.Versions.{version, IsVersion, has_modify, answers_modify}
use Rattle.io_edge.specs.declared.side.Side.TheVariants.{Guest as GuestSide}
use Rattle.chan_state.specs.declared.state.State.{State}
use Rattle.chan_state.specs.declared.state.State.TheVariants.{Offered as IsOffered, Opened as IsOpened, Modifying as IsModifying}
use Rattle.chan_state.specs.declared.event.Event.TheVariants.{WantOpen, WantClose, WantRelease, ResultSeen, ModifiedSeen, TorndownSeen, RescindSeen}
use Rattle.gpadl.specs.declared.fault.GpadlFault.TheVariants.{Handle}
use Rattle.vmbus_msg.specs.Grammar.{type_of}
use Rattle.vmbus_msg.specs.declared.msg.Msg.{Msg}
use Rattle.vmbus_msg.specs.declared.msg.Msg.TheVariants.{OfferChannel, RescindChannelOffer, AllOffersDelivered, OpenChannelResult, GpadlCreated, GpadlTorndown, VersionResponse, UnloadResponse, ModifyChannelResponse}
use Rattle.control_model.specs.declared.opening.Opening.{Opening}
use Rattle.control_model.specs.declared.buffer.Buffer.{Buffer}
use Rattle.control_model.specs.declared.buffer.Buffer.TheVariants.{Receive, Send}
use Rattle.control_model.specs.declared.channel.Channel.{Channel}
use Rattle.control_model.specs.declared.change.Change.{Change}
use Rattle.control_model.specs.declared.change.Change.TheVariants.{Same, Offered, Now, Moved}
use Rattle.control_model.specs.declared.moves.Move.{Move}
use Rattle.control_model.specs.declared.burst.Burst.{Burst}
use Rattle.control_model.specs.declared.burst.Burst.TheVariants.{Empty, One, Two, Three, PageList, BufferList, Moves}
use Rattle.control_model.specs.declared.fault.ControlFault.{ControlFault}
use Rattle.control_model.specs.declared.fault.ControlFault.TheVariants.{Gpadl, Relid, Offer, Unasked, Memory}
use Rattle.control_model.specs.declared.guest_wait.GuestWait.{GuestWait}
use Rattle.control_model.specs.declared.guest_wait.GuestWait.TheVariants.{Nothing, Response, Offers, SubOffer, ServiceOffer, Created, Opened, Listed, Modified, Unlisted, Torn, Rescinded, Unloaded}
use Rattle.control_model.specs.declared.guest_turn.GuestTurn.{GuestTurn}
use Rattle.control_model.specs.Plan.{BusPlan, buffer_list, opening_in, is_sub, is_of_sub, movers_in, vp_for, most_channels}
use Rattle.control_model.specs.Messages.{propose, request, connect, open_on, close, teardown, teardown_buffer, release, farewell, Sends, Fits}
use Rattle.control_model.specs.Channels.{version_below, kind_with, same_kind, is_kind, by_relid, lived, changed, place_of_list}

-- all that contracts see of a guest's control
pub record GuestSeen : Type 0 where
  pub plan : BusPlan
  pub part : Option Part
  pub awaits : GuestWait
  pub version : Option Version
  pub channels : List Channel
  pub posted : List Msg
  pub fed : List Msg

-- a guest's control that was made from a plan, before its first part
abbrev pub new_guest : BusPlan → GuestSeen
new_guest plan = record { plan = plan; part = None; awaits = Nothing; version = None; channels = []; posted = []; fed = [] }

abbrev pub waits_for_nothing : GuestWait → Bool
waits_for_nothing Nothing = true
waits_for_nothing _ = false

-- a part has begun, and nothing more of it is to be sent or taken
abbrev pub guest_done : GuestSeen → Bool
guest_done g = is_some g.part && waits_for_nothing g.awaits

-- no part has begun, or the last one is done
abbrev pub can_begin : GuestSeen → Bool
can_begin g = not (is_some g.part) || waits_for_nothing g.awaits

-- the state of the channel with a relid, if there is one
abbrev pub state_at : Option Channel → Option State
state_at None = None
state_at (Some c) = Some c.life.state

abbrev pub state_of : GuestSeen → ℕ → Option State
state_of g relid = state_at (by_relid g.channels relid)

-- nothing comes of it
abbrev pub idle : GuestSeen → GuestTurn
idle g = record { awaits = g.awaits; version = g.version; heard = Same; wished = Same; burst = Empty }

-- the opening with this place in the part under way
abbrev pub opening_of : GuestSeen → ℕ → Option Opening
opening_of g place = opening_in g.plan g.part place

-- from 4.1 on channels are moved to other processors, and from 5.3 on the host answers that
abbrev pub can_modify : Option Version → Bool
can_modify None = false
can_modify (Some v) = has_modify v.0

abbrev pub is_answered : Option Version → Bool
is_answered None = false
is_answered (Some v) = answers_modify v.0

-- of a phase that starts, the openings whose channels are moved
abbrev pub movers_of : GuestSeen → Option Part → List Opening
movers_of g part = movers_in g.plan part (can_modify g.version)

-- the channel with this relid is open; it is moved, and the host hasn't answered
abbrev pub is_opened : State → Bool
is_opened IsOpened = true
is_opened _ = false

abbrev pub is_modifying : State → Bool
is_modifying IsModifying = true
is_modifying _ = false

abbrev pub in_state : (State → Bool) → Option Channel → Bool
in_state is None = false
in_state is (Some c) = is c.life.state

-- the channel with a relid, as the message that came leaves it
abbrev pub channel_then : GuestSeen → Change → ℕ → Option Channel
channel_then g (Now named channel) relid = if named == relid then Some channel else by_relid g.channels relid
channel_then g heard relid = by_relid g.channels relid

abbrev pub then_in : GuestSeen → Change → (State → Bool) → Opening → Bool
then_in g heard is o = in_state is (channel_then g heard o.relid)

-- all channels of a phase are open: those that the phase moves are moved, but for any that isn't open any more, and the guest waits for the answers, where there
-- are some
abbrev pub move_of : Opening → Move
move_of o = record { relid = o.relid; vp = vp_for o }

abbrev pub moves_of : GuestSeen → Change → List Opening → List Move
moves_of g heard os = map move_of (filter (then_in g heard is_opened) os)

abbrev pub waits_moved : Bool → List Move → GuestWait
waits_moved true (m ∷ moves) = Modified 0
waits_moved _ _ = Nothing

abbrev pub moves_with : GuestTurn → Bool → List Move → GuestTurn
moves_with turn answered moves = record turn { awaits = waits_moved answered moves; wished = Moved moves answered; burst = Moves moves }

abbrev pub moves_all : GuestSeen → Option Part → GuestTurn → GuestTurn
moves_all g part turn = moves_with turn (is_answered g.version) (moves_of g turn.heard (movers_of g part))

-- the page list of an opening is sent; but where its channel is that of a service, the guest asks for it first
abbrev pub lists : GuestTurn → ℕ → Opening → GuestTurn
lists turn place o = record turn { awaits = Created place; burst = PageList o }

abbrev pub dials_one : GuestTurn → ℕ → Opening → Option ℕ → GuestTurn
dials_one turn place o None = lists turn place o
dials_one turn place o (Some port) = record turn { awaits = ServiceOffer place; burst = One (connect port) }

-- goes on with the opening at a place, if there is one; behind the last one the channels are moved
abbrev pub lists_next : GuestSeen → Option Part → GuestTurn → ℕ → Option Opening → GuestTurn
lists_next g part turn place None = moves_all g part turn
lists_next g part turn place (Some o) = dials_one turn place o o.dialed

-- GPADL_TEARDOWN, for the page list of a buffer, behind the one message, if any, that is sent before it
abbrev pub and_empty : Burst → Opening → Buffer → Burst
and_empty (One m) o k = Two m (teardown_buffer o k)
and_empty _ o k = One (teardown_buffer o k)

abbrev pub empties : GuestTurn → ℕ → Opening → Buffer → GuestTurn
empties turn place o k = record turn { awaits = Unlisted place k; burst = and_empty turn.burst o k }

-- CLOSECHANNEL and GPADL_TEARDOWN, behind the one message, if any, that is sent before them
abbrev pub and_close : Burst → Opening → Burst
and_close (One m) o = Three m (close o.relid) (teardown o)
and_close _ o = Two (close o.relid) (teardown o)

-- the guest wants a channel closed: where the table has a row for it, CLOSECHANNEL and GPADL_TEARDOWN are sent
abbrev pub closes_by : GuestTurn → Opening → Result Channel ControlFault → GuestTurn
closes_by turn o (Err fault) = turn
closes_by turn o (Ok now) = record turn { wished = Now o.relid now; burst = and_close turn.burst o }

abbrev pub closes : GuestTurn → Opening → Option Channel → GuestTurn
closes turn o None = turn
closes turn o (Some c) = closes_by turn o (lived c WantClose)

abbrev pub closes_one : GuestTurn → List Channel → ℕ → Opening → GuestTurn
closes_one turn channels place o = closes (record turn { awaits = Torn place }) o (by_relid channels o.relid)

-- goes on with the opening at a place, if there is one: its channel is closed, once the page lists of its buffers are torn down; or waits for the host to rescind it
abbrev pub ends_open : GuestTurn → List Channel → ℕ → Opening → Bool → GuestTurn
ends_open turn channels place o true = empties turn place o Send
ends_open turn channels place o false = closes_one turn channels place o

abbrev pub ends_one : GuestTurn → List Channel → ℕ → Opening → Bool → GuestTurn
ends_one turn channels place o true = record turn { awaits = Rescinded place }
ends_one turn channels place o false = ends_open turn channels place o o.buffers

abbrev pub closes_next : GuestTurn → List Channel → ℕ → Option Opening → GuestTurn
closes_next turn channels place None = record turn { awaits = Nothing }
closes_next turn channels place (Some o) = ends_one turn channels place o o.rescinded

-- the guest unloads from 3.0 on
abbrev pub can_unload : Option Version → Bool
can_unload None = false
can_unload (Some v) = nat_le (version 3 0) v.0

-- INITIATE_CONTACT, with a version
abbrev pub proposal : GuestSeen → Version → GuestTurn
proposal g v = record (idle g) { awaits = Response v; burst = One (propose v.0) }

-- what the guest sends unasked at the start of a part
abbrev pub guest_begins : GuestSeen → Part → GuestTurn
guest_begins g Contact = proposal g g.plan.guest
guest_begins g (PhaseStart phase) = lists_next g (Some (PhaseStart phase)) (idle g) 0 (opening_in g.plan (Some (PhaseStart phase)) 0)
guest_begins g (PhaseEnd phase) = closes_next (idle g) g.channels 0 (opening_in g.plan (Some (PhaseEnd phase)) 0)
guest_begins g Unload =
    if can_unload g.version then record (idle g) { awaits = Unloaded; burst = One farewell } else record (idle g) { awaits = Nothing }

-- VERSION_RESPONSE, 1 or 0: the guest asks for the offers, or proposes the next lower version
abbrev pub proposes : GuestSeen → Option Version → GuestTurn
proposes g None = idle g
proposes g (Some lower) = proposal g lower

abbrev pub answered : GuestSeen → Version → ℕ → GuestTurn
answered g v supported =
    if supported == 1 then record (idle g) { awaits = Offers; version = Some v; burst = One request } else
    if supported == 0 then proposes g (version_below v) else idle g

abbrev pub on_response : GuestSeen → GuestWait → ℕ → GuestTurn
on_response g (Response v) supported = answered g v supported
on_response g _ supported = idle g

-- OFFERCHANNEL: while devices are offered, the next device's, of its kind, with the next relid
abbrev pub offered_channel : Channel
offered_channel = record { life = record { side = GuestSide; state = IsOffered; vp = 0 }; gpadl = None }

abbrev pub awaits_offers : GuestWait → Bool
awaits_offers Offers = true
awaits_offers _ = false

abbrev pub is_next_offer : GuestSeen → Kind → ℕ → ℕ → Bool
is_next_offer g kind sub relid =
    awaits_offers g.awaits && (relid == length g.channels + 1) && (sub == 0) && is_kind kind (slice_get g.plan.kinds (length g.channels))

abbrev pub device_offered : GuestSeen → Kind → ℕ → ℕ → GuestTurn
device_offered g kind sub relid = if is_next_offer g kind sub relid then record (idle g) { heard = Offered offered_channel } else idle g

-- behind a device's first channel, which is open then, that of its next sub-channel, with its relid, which is the next one, and its number
abbrev pub is_sub_offer : GuestSeen → Opening → Kind → ℕ → ℕ → Bool
is_sub_offer g o kind sub relid = (relid == length g.channels + 1) && (relid == o.relid) && (sub == o.sub) && same_kind Disk kind

-- once all of them came, the guest goes on with the first one: its page list is sent
abbrev pub goes_behind : GuestSeen → GuestTurn → ℕ → Opening → GuestTurn
goes_behind g turn place o =
    if is_of_sub (opening_of g (place + 1)) then record turn { awaits = SubOffer (place + 1) } else lists_next g g.part turn (place + 1 - o.sub) (opening_of g (place + 1 - o.sub))

abbrev pub sub_offered : GuestSeen → ℕ → Kind → ℕ → ℕ → Option Opening → GuestTurn
sub_offered g place kind sub relid None = idle g
sub_offered g place kind sub relid (Some o) =
    if is_sub_offer g o kind sub relid then goes_behind g (record (idle g) { heard = Offered offered_channel }) place o else idle g

-- that of the service which was asked for, with the next relid: its page list is sent
abbrev pub is_service : Kind → Option ℕ → Bool
is_service kind None = false
is_service kind (Some port) = same_kind (Sock port) kind

abbrev pub is_service_offer : GuestSeen → Opening → Kind → ℕ → ℕ → Bool
is_service_offer g o kind sub relid = (relid == length g.channels + 1) && (relid == o.relid) && (sub == 0) && is_service kind o.dialed

abbrev pub service_offered : GuestSeen → ℕ → Kind → ℕ → ℕ → Option Opening → GuestTurn
service_offered g place kind sub relid None = idle g
service_offered g place kind sub relid (Some o) =
    if is_service_offer g o kind sub relid then lists (record (idle g) { heard = Offered offered_channel }) place o else idle g

abbrev pub takes_offer : GuestSeen → GuestWait → Kind → ℕ → ℕ → GuestTurn
takes_offer g (SubOffer place) kind sub relid = sub_offered g place kind sub relid (opening_of g place)
takes_offer g (ServiceOffer place) kind sub relid = service_offered g place kind sub relid (opening_of g place)
takes_offer g _ kind sub relid = device_offered g kind sub relid

abbrev pub on_offer : GuestSeen → List ℕ → ℕ → ℕ → Option Kind → Result GuestTurn ControlFault
on_offer g if_type sub relid None = Err (Offer (Class if_type))
on_offer g if_type sub relid (Some kind) = Ok (takes_offer g g.awaits kind sub relid)

-- ALLOFFERS_DELIVERED, behind the last offer
abbrev pub on_delivered : GuestSeen → GuestTurn
on_delivered g =
    if awaits_offers g.awaits && (length g.channels == length g.plan.kinds) then record (idle g) { awaits = Nothing } else idle g

-- once a channel is open, the guest goes on with the next opening; behind a device's first channel the offers of its sub-channels come before
abbrev pub opens_next : GuestSeen → GuestTurn → ℕ → Opening → Option Opening → GuestTurn
opens_next g turn place o next = if not (is_sub o) && is_of_sub next then record turn { awaits = SubOffer (place + 1) } else lists_next g g.part turn (place + 1) next

-- GPADL_CREATED, for the page list that was sent: the guest wants its channel open
abbrev pub opens : GuestSeen → ℕ → Opening → Result Channel ControlFault → GuestTurn
opens g place o (Err fault) = idle g
opens g place o (Ok now) =
    record (idle g) { awaits = Opened place; wished = Now o.relid (record { life = now.life; gpadl = Some o.gpadl }); burst = One (open_on o) }

abbrev pub created_for : GuestSeen → ℕ → ℕ → ℕ → ℕ → Channel → Option Opening → GuestTurn
created_for g place relid gpadl status c None = idle g
created_for g place relid gpadl status c (Some o) =
    if (o.relid == relid) && (o.gpadl == gpadl) && (status == 0) then opens g place o (lived c WantOpen) else idle g

-- for the page list of a buffer: that of the send buffer is sent behind that of the receive buffer, and behind both the guest goes on with the next opening
abbrev pub fills : GuestTurn → ℕ → Opening → Buffer → GuestTurn
fills turn place o k = record turn { awaits = Listed place k; burst = BufferList o k }

abbrev pub filled : GuestSeen → GuestTurn → ℕ → Opening → Buffer → GuestTurn
filled g turn place o Receive = fills turn place o Send
filled g turn place o Send = opens_next g turn place o (opening_of g (place + 1))

abbrev pub filled_for : GuestSeen → ℕ → Buffer → ℕ → ℕ → ℕ → Option Opening → GuestTurn
filled_for g place k relid gpadl status None = idle g
filled_for g place k relid gpadl status (Some o) =
    if (o.relid == relid) && (buffer_list o k == gpadl) && (status == 0) then filled g (idle g) place o k else idle g

abbrev pub created_while : GuestSeen → GuestWait → ℕ → ℕ → ℕ → Channel → GuestTurn
created_while g (Created place) relid gpadl status c = created_for g place relid gpadl status c (opening_of g place)
created_while g (Listed place k) relid gpadl status c = filled_for g place k relid gpadl status (opening_of g place)
created_while g _ relid gpadl status c = idle g

abbrev pub on_created : GuestSeen → ℕ → ℕ → ℕ → Option Channel → Result GuestTurn ControlFault
on_created g relid gpadl status None = Err (Relid relid)
on_created g relid gpadl status (Some c) = Ok (created_while g g.awaits relid gpadl status c)

-- OPENCHANNEL_RESULT: the channel is open with status 0, and the page lists of its buffers are sent, where it has some
abbrev pub opens_with : GuestSeen → GuestTurn → ℕ → Opening → Bool → GuestTurn
opens_with g turn place o true = fills turn place o Receive
opens_with g turn place o false = opens_next g turn place o (opening_of g (place + 1))

abbrev pub opened_for : GuestSeen → GuestTurn → ℕ → ℕ → ℕ → Option Opening → GuestTurn
opened_for g turn place relid status None = turn
opened_for g turn place relid status (Some o) =
    if (o.relid == relid) && (status == 0) then opens_with g turn place o o.buffers else turn

abbrev pub opened_while : GuestSeen → GuestTurn → GuestWait → ℕ → ℕ → GuestTurn
opened_while g turn (Opened place) relid status = opened_for g turn place relid status (opening_of g place)
opened_while g turn _ relid status = turn

abbrev pub result_by : GuestSeen → ℕ → ℕ → Result Channel ControlFault → Result GuestTurn ControlFault
result_by g relid status (Err fault) = Err fault
result_by g relid status (Ok now) = Ok (opened_while g (record (idle g) { heard = Now relid now }) g.awaits relid status)

abbrev pub on_result : GuestSeen → ℕ → ℕ → Option Channel → Result GuestTurn ControlFault
on_result g relid status None = Err (Relid relid)
on_result g relid status (Some c) = result_by g relid status (lived c (ResultSeen status))

-- MODIFYCHANNEL_RESPONSE: the channel is open again, and the guest waits for the answers from that of the first one on that has none yet
abbrev pub waits_answer : Option ℕ → GuestWait
waits_answer None = Nothing
waits_answer (Some place) = Modified place

abbrev pub waits_on : GuestSeen → GuestTurn → GuestTurn
waits_on g turn = record turn { awaits = waits_answer (position_from (then_in g turn.heard is_modifying) 0 (movers_of g g.part)) }

abbrev pub modified_while : GuestSeen → GuestTurn → GuestWait → GuestTurn
modified_while g turn (Modified place) = waits_on g turn
modified_while g turn _ = turn

abbrev pub modified_by : GuestSeen → ℕ → Result Channel ControlFault → Result GuestTurn ControlFault
modified_by g relid (Err fault) = Err fault
modified_by g relid (Ok now) = Ok (modified_while g (record (idle g) { heard = Now relid now }) g.awaits)

abbrev pub on_modified : GuestSeen → ℕ → Option Channel → Result GuestTurn ControlFault
on_modified g relid None = Err (Relid relid)
on_modified g relid (Some c) = modified_by g relid (lived c ModifiedSeen)

-- the channel of the opening at a place is done with, where it is this one, and the guest goes on with the next opening
abbrev pub ended_for : GuestSeen → GuestTurn → ℕ → ℕ → Option Opening → GuestTurn
ended_for g turn place relid None = turn
ended_for g turn place relid (Some o) = if o.relid == relid then closes_next turn g.channels (place + 1) (opening_of g (place + 1)) else turn

-- GPADL_TORNDOWN: the channel is closed, and the guest goes on with the next opening; but a sub-channel waits for the host to rescind it
abbrev pub torn_then : GuestSeen → GuestTurn → ℕ → ℕ → Opening → GuestTurn
torn_then g turn place relid o = if (o.relid == relid) && is_sub o then record turn { awaits = Rescinded place } else ended_for g turn place relid (Some o)

abbrev pub torn_for : GuestSeen → GuestTurn → ℕ → ℕ → Option Opening → GuestTurn
torn_for g turn place relid None = turn
torn_for g turn place relid (Some o) = torn_then g turn place relid o

abbrev pub torn_while : GuestSeen → GuestTurn → GuestWait → ℕ → GuestTurn
torn_while g turn (Torn place) relid = torn_for g turn place relid (opening_of g place)
torn_while g turn _ relid = turn

abbrev pub torn_by : GuestSeen → ℕ → Result Channel ControlFault → Result GuestTurn ControlFault
torn_by g relid (Err fault) = Err fault
torn_by g relid (Ok now) = Ok (torn_while g (record (idle g) { heard = Now relid now }) g.awaits relid)

abbrev pub torn_at : GuestSeen → ℕ → ℕ → Option Channel → Result GuestTurn ControlFault
torn_at g gpadl place None = Err (Gpadl (Handle gpadl))
torn_at g gpadl place (Some c) = torn_by g (place + 1) (lived c TorndownSeen)

abbrev pub torn_rings : GuestSeen → ℕ → Option ℕ → Result GuestTurn ControlFault
torn_rings g gpadl None = Err (Gpadl (Handle gpadl))
torn_rings g gpadl (Some place) = torn_at g gpadl place (slice_get g.channels place)

-- but for the page list of a buffer no channel goes on: that of the receive buffer is torn down behind that of the send buffer, and behind both the channel is closed
abbrev pub emptied : GuestSeen → ℕ → Opening → Buffer → GuestTurn
emptied g place o Send = empties (idle g) place o Receive
emptied g place o Receive = closes_one (idle g) g.channels place o

abbrev pub empties_list : Buffer → ℕ → Option Opening → Bool
empties_list k gpadl None = false
empties_list k gpadl (Some o) = buffer_list o k == gpadl

abbrev pub emptied_at : GuestSeen → ℕ → Buffer → Option Opening → GuestTurn
emptied_at g place k None = idle g
emptied_at g place k (Some o) = emptied g place o k

abbrev pub on_torndown : GuestSeen → GuestWait → ℕ → Result GuestTurn ControlFault
on_torndown g (Unlisted place k) gpadl =
    if empties_list k gpadl (opening_of g place) then Ok (emptied_at g place k (opening_of g place)) else torn_rings g gpadl (place_of_list g.channels gpadl)
on_torndown g _ gpadl = torn_rings g gpadl (place_of_list g.channels gpadl)

-- RESCIND_CHANNELOFFER: the guest settles, gives the channel back, and goes on with the next opening; of a channel that is moved no answer is waited for then
abbrev pub releases : GuestSeen → ℕ → Channel → Result Channel ControlFault → GuestTurn
releases g relid seen (Err fault) = record (idle g) { heard = Now relid seen }
releases g relid seen (Ok now) = record (idle g) { heard = Now relid now; burst = One (release relid) }

abbrev pub rescinded_while : GuestSeen → GuestTurn → GuestWait → ℕ → GuestTurn
rescinded_while g turn (Rescinded place) relid = ended_for g turn place relid (opening_of g place)
rescinded_while g turn (Modified place) relid = waits_on g turn
rescinded_while g turn _ relid = turn

abbrev pub rescind_by : GuestSeen → ℕ → Result Channel ControlFault → Result GuestTurn ControlFault
rescind_by g relid (Err fault) = Err fault
rescind_by g relid (Ok seen) = Ok (rescinded_while g (releases g relid seen (lived seen WantRelease)) g.awaits relid)

abbrev pub on_rescind : GuestSeen → ℕ → Option Channel → Result GuestTurn ControlFault
on_rescind g relid None = Err (Relid relid)
on_rescind g relid (Some c) = rescind_by g relid (lived c RescindSeen)

-- UNLOAD_RESPONSE
abbrev pub on_unloaded : GuestSeen → GuestWait → GuestTurn
on_unloaded g Unloaded = record (idle g) { awaits = Nothing }
on_unloaded g _ = idle g

-- the guest's table: what comes of each message, or why it is refused
abbrev pub guest_hears : GuestSeen → Msg → Result GuestTurn ControlFault
guest_hears g (OfferChannel padding if_type if_instance reserved1 reserved2 chn_flags mmio user sub reserved3 relid monitorid monitor interrupt connection) = on_offer g if_type sub relid (kind_with if_type)
guest_hears g (RescindChannelOffer padding relid) = on_rescind g relid (by_relid g.channels relid)
guest_hears g (AllOffersDelivered padding) = Ok (on_delivered g)
guest_hears g (OpenChannelResult padding relid openid status) = on_result g relid status (by_relid g.channels relid)
guest_hears g (ModifyChannelResponse padding relid status) = on_modified g relid (by_relid g.channels relid)
guest_hears g (GpadlCreated padding relid gpadl status) = on_created g relid gpadl status (by_relid g.channels relid)
guest_hears g (GpadlTorndown padding gpadl) = on_torndown g g.awaits gpadl
guest_hears g (VersionResponse padding supported state padding2 conn) = Ok (on_response g g.awaits supported)
guest_hears g (UnloadResponse padding) = Ok (on_unloaded g g.awaits)
guest_hears g m = Err (Unasked (type_of m))

-- the version that is proposed is one of the list
abbrev pub IsListed : GuestWait → Type 0
IsListed (Response v) = IsVersion v.0
IsListed _ = Unit {0}

-- there are no more channels than a plan can have
abbrev pub HasRoom : List Channel → Change → Type 0
HasRoom channels (Offered channel) = length channels < most_channels
HasRoom channels _ = Unit {0}

-- a wish adds no channel
abbrev pub AddsNone : Change → Type 0
AddsNone (Offered channel) = ⊥
AddsNone _ = Unit {0}

-- a turn can be made
abbrev pub IsFit : GuestSeen → GuestTurn → Type 0
IsFit g turn = Fits turn.burst × IsListed turn.awaits × HasRoom g.channels turn.heard × AddsNone turn.wished

-- a guest after a turn in which it sent these messages, and was fed these
abbrev pub guest_after : GuestSeen → Option Part → GuestTurn → List Msg → List Msg → GuestSeen
guest_after g part turn sent fed = record {
  plan = g.plan;
  part = part;
  awaits = turn.awaits;
  version = turn.version;
  channels = changed (changed g.channels turn.heard) turn.wished;
  posted = g.posted ++ sent;
  fed = g.fed ++ fed;
}

-- a part begins: it sends what the part begins with
pub record GuestBegins (old : GuestSeen) (part : Part) (sent : List Msg) (new : GuestSeen) : Type 0 where
  pub sends : Sends old.plan (guest_begins old part).burst sent
  pub now : new ≡ guest_after old (Some part) (guest_begins old part) sent []

-- a message is taken: what comes of it is sent
pub record GuestTakes (old : GuestSeen) (m : Msg) (sent : List Msg) (new : GuestSeen) : Type 0 where
  pub turn : GuestTurn
  pub hears : guest_hears old m ≡ Ok turn
  pub sends : Sends old.plan turn.burst sent
  pub now : new ≡ guest_after old old.part turn sent (m ∷ [])

-- a refusal: the message's own fault, or want of memory where it has none
abbrev pub Refuses : {T : Type 0} → Result T ControlFault → ControlFault → Type 0
Refuses (Ok turn) fault = fault ≡ Memory
Refuses (Err own) fault = fault ≡ own
