-- A host's control: what it waits for, what it does about each message, and what it refuses.
use Rattle.std.specs.Prelude.{◌≡◌, ℕ, ◌+◌, ◌==◌, Bool, true, false, not, ◌&&◌, ◌||◌, List, [], ◌∷◌, ◌++◌, filter, length, map, replicate, slice_get, slice_set, ◌-◌, Option, Some, None, is_some, Result, Ok, Err, if◌then◌else◌}
use Rattle.contact.specs.declared.version.Version.{Version}
use Rattle.std.specs.Str.{bytes_eq}
use Rattle.contact.specs.Services.{service_id}
use Rattle.contact.specs.declared.part.Part.{Part}
use Rattle.contact.specs.declared.part.Part.TheVariants.{Contact, PhaseStart, PhaseEnd, Unload}
use Rattle.io_edge.specs.declared.side.Side.TheVariants.{Host as HostSide}
use Rattle.chan_state.specs.declared.state.State.{State}
use Rattle.chan_state.specs.declared.state.State.TheVariants.{Offered as IsOffered, Rescinded as IsRescinded}
use Rattle.chan_state.specs.declared.event.Event.TheVariants.{OpenSeen, ModifySeen, CloseSeen, TeardownSeen, ReleaseSeen, WantRescind}
use Rattle.chan_state.specs.declared.action.Action.{Action}
use Rattle.chan_state.specs.declared.action.Action.TheVariants.{SendResult, SendModified, SendTorndown}
use Rattle.chan_state.specs.declared.chan_state.ChanState.{ChanState}
use Rattle.gpadl.specs.declared.fault.GpadlFault.{GpadlFault}
use Rattle.gpadl.specs.declared.fault.GpadlFault.TheVariants.{Handle}
use Rattle.gpadl.specs.Assembly.{Partial, Assembly, is_live, built, fault_of}
use Rattle.gpadl.specs.Whole.{next}
use Rattle.vmbus_msg.specs.Grammar.{type_of}
use Rattle.vmbus_msg.specs.declared.msg.Msg.{Msg}
use Rattle.vmbus_msg.specs.declared.msg.Msg.TheVariants.{RequestOffers, OpenChannel, CloseChannel, GpadlHeader, GpadlBody, GpadlTeardown, RelidReleased, InitiateContact, Unload as UnloadSeen, TlConnectRequest, ModifyChannel}
use Rattle.control_model.specs.declared.opening.Opening.{Opening}
use Rattle.control_model.specs.declared.buffer.Buffer.{Buffer}
use Rattle.control_model.specs.declared.buffer.Buffer.TheVariants.{Receive, Send}
use Rattle.control_model.specs.declared.burst.Burst.{Burst}
use Rattle.control_model.specs.declared.burst.Burst.TheVariants.{Empty, One, Two, Offers, Opens}
use Rattle.control_model.specs.declared.fault.ControlFault.{ControlFault}
use Rattle.control_model.specs.declared.fault.ControlFault.TheVariants.{State as StateFault, Gpadl, Relid, Unasked}
use Rattle.control_model.specs.declared.host_wait.HostWait.{HostWait}
use Rattle.control_model.specs.declared.host_wait.HostWait.TheVariants.{Nothing, Contact as AwaitsContact, Request, Connect, List as AwaitsList, Open, Fill, Modify, Empty as AwaitsEmpty, Close, Teardown, Release, Unload as AwaitsUnload}
use Rattle.control_model.specs.declared.host_next.HostNext.{HostNext}
use Rattle.control_model.specs.declared.host_next.Rescind.{Rescind}
use Rattle.control_model.specs.Plan.{BusPlan, buffer_list, is_buffer_in, opening_in, is_sub, subs_behind, movers_in}
use Rattle.control_model.specs.Messages.{respond, offer_service, created, opened, modified, torndown, rescind, farewell_taken, Sends}
use Rattle.control_model.specs.Channels.{accepts, by_relid, row_of, stands, goes_by}
use Rattle.control_model.specs.Guest.{can_unload, can_modify, is_answered}

-- all that contracts see of a host's control
pub record HostSeen : Type 0 where
  pub plan : BusPlan
  pub part : Option Part
  pub awaits : HostWait
  pub version : Option Version
  pub channels : List ChanState
  pub lists : Assembly
  pub posted : List Msg
  pub fed : List Msg

-- a host's control that was made from a plan, before its first part
abbrev pub new_host : BusPlan → HostSeen
new_host plan = record { plan = plan; part = None; awaits = Nothing; version = None; channels = []; lists = record { building = None; live = [] }; posted = []; fed = [] }

-- what comes of a message, or of the start of a part, at a host
pub record HostTurn : Type 0 where
  pub awaits : HostWait
  pub version : Option Version
  pub channels : List ChanState
  pub lists : Assembly
  pub burst : Burst

abbrev pub host_waits_for_nothing : HostWait → Bool
host_waits_for_nothing Nothing = true
host_waits_for_nothing _ = false

-- a part has begun, and nothing more of it is to be sent or taken
abbrev pub host_done : HostSeen → Bool
host_done h = is_some h.part && host_waits_for_nothing h.awaits

-- the state of the channel with a relid, if there is one
abbrev pub life_at : Option ChanState → Option State
life_at None = None
life_at (Some life) = Some life.state

abbrev pub host_state_of : HostSeen → ℕ → Option State
host_state_of h relid = life_at (by_relid h.channels relid)

-- no part has begun, or the last one is done
abbrev pub host_can_begin : HostSeen → Bool
host_can_begin h = not (is_some h.part) || host_waits_for_nothing h.awaits

-- nothing comes of it
abbrev pub at_rest : HostSeen → HostTurn
at_rest h = record { awaits = h.awaits; version = h.version; channels = h.channels; lists = h.lists; burst = Empty }

-- the opening with this place in the part under way
abbrev pub opening_for : HostSeen → ℕ → Option Opening
opening_for h place = opening_in h.plan h.part place

-- of a phase that starts, the opening with this place among those whose channels are moved
abbrev pub mover_in : HostSeen → Option Part → ℕ → Option Opening
mover_in h part place = slice_get (movers_in h.plan part (can_modify h.version)) place

-- waits for it to be moved, if there is one
abbrev pub waits_move : ℕ → Option Opening → HostWait
waits_move place None = Nothing
waits_move place (Some o) = Modify place

-- waits for the page list of an opening; but where its channel is that of a service, for the guest to ask for it first
abbrev pub waits_one : ℕ → Option ℕ → HostWait
waits_one place None = AwaitsList place
waits_one place (Some port) = Connect place

-- waits for the opening at a place, if there is one; behind the last one the channels are moved
abbrev pub waits_list : HostSeen → Option Part → ℕ → Option Opening → HostWait
waits_list h part place None = waits_move 0 (mover_in h part 0)
waits_list h part place (Some o) = waits_one place o.dialed

-- it waits, and rescinds no channel
abbrev pub waits : HostWait → HostNext
waits awaits = record { awaits = awaits; rescinds = None }

-- the host wants the channel of an opening rescinded, where the table has a row for that
abbrev pub rescind_of : Opening → ChanState → Option (State × Action) → Option Rescind
rescind_of o life None = None
rescind_of o life (Some row) = Some (record { opening = o; life = stands life row.0 })

abbrev pub wants_rescind : Opening → Option ChanState → Option Rescind
wants_rescind o None = None
wants_rescind o (Some life) = rescind_of o life (row_of life WantRescind)

-- goes on with the opening at a place, if there is one: its channel is rescinded, and waits to be given back; or waits for the guest to close it, once the guest tore the page lists of its buffers down
abbrev pub waits_end : ℕ → Bool → HostWait
waits_end place buffers = if buffers then AwaitsEmpty place Send else Close place

abbrev pub one_next : List ChanState → ℕ → Opening → Bool → HostNext
one_next channels place o true = record { awaits = Release place; rescinds = wants_rescind o (by_relid channels o.relid) }
one_next channels place o false = waits (waits_end place o.buffers)

abbrev pub next_end : List ChanState → ℕ → Option Opening → HostNext
next_end channels place None = waits Nothing
next_end channels place (Some o) = one_next channels place o o.rescinded

-- the live lists without one that was let go
abbrev pub without : Assembly → ℕ → Assembly
without lists gpadl = record { building = lists.building; live = filter (λ handle. not (handle == gpadl)) lists.live }

-- those of an opening's buffers, and all of an opening
abbrev pub without_buffers : Assembly → Opening → Assembly
without_buffers lists o = if o.buffers then without (without lists (buffer_list o Send)) (buffer_list o Receive) else lists

abbrev pub without_all : Assembly → Opening → Assembly
without_all lists o = without (without_buffers lists o) o.gpadl

-- the channel that is rescinded stands so then, all its page lists end, and RESCIND_CHANNELOFFER is sent behind the answer, if there is one
abbrev pub rescinded_among : List ChanState → Option Rescind → List ChanState
rescinded_among channels None = channels
rescinded_among channels (Some r) = slice_set channels (r.opening.relid - 1) r.life

abbrev pub without_its : Assembly → Option Rescind → Assembly
without_its lists None = lists
without_its lists (Some r) = without_all lists r.opening

abbrev pub and_rescind : Option Msg → Option Rescind → Burst
and_rescind None None = Empty
and_rescind None (Some r) = One (rescind r.opening.relid)
and_rescind (Some m) None = One m
and_rescind (Some m) (Some r) = Two m (rescind r.opening.relid)

abbrev pub goes_next : HostTurn → Option Msg → HostNext → HostTurn
goes_next turn answer next = record {
  awaits = next.awaits;
  version = turn.version;
  channels = rescinded_among turn.channels next.rescinds;
  lists = without_its turn.lists next.rescinds;
  burst = and_rescind answer next.rescinds;
}

-- what the host goes on with at the start of a part: it sends nothing unasked, but for RESCIND_CHANNELOFFER where the first channel of a phase that ends is to
-- be rescinded
abbrev pub first_next : HostSeen → Part → HostNext
first_next h Contact = waits AwaitsContact
first_next h (PhaseStart phase) = waits (waits_list h (Some (PhaseStart phase)) 0 (opening_in h.plan (Some (PhaseStart phase)) 0))
first_next h (PhaseEnd phase) = next_end h.channels 0 (opening_in h.plan (Some (PhaseEnd phase)) 0)
first_next h Unload = waits (if can_unload h.version then AwaitsUnload else Nothing)

abbrev pub host_begins : HostSeen → Part → HostTurn
host_begins h part = goes_next (at_rest h) None (first_next h part)

-- the opening is of this channel
abbrev pub is_of : ℕ → Option Opening → Bool
is_of relid None = false
is_of relid (Some o) = o.relid == relid

-- a channel that is offered
abbrev pub offered_life : ChanState
offered_life = record { side = HostSide; state = IsOffered; vp = 0 }

-- INITIATE_CONTACT: answered by 1 where the host has the version, and by 0 otherwise
abbrev pub on_contact : HostSeen → HostWait → ℕ → HostTurn
on_contact h AwaitsContact asked =
    if accepts h.plan.host asked then record (at_rest h) { awaits = Request; version = Some (record { 0 = asked }); burst = One (respond 1) } else
    record (at_rest h) { burst = One (respond 0) }
on_contact h _ asked = at_rest h

-- REQUESTOFFERS: each device is offered
abbrev pub on_request : HostSeen → HostWait → HostTurn
on_request h Request = record (at_rest h) { awaits = Nothing; channels = map (λ kind. offered_life) h.plan.kinds; burst = Offers }
on_request h _ = at_rest h

-- TL_CONNECT_REQUEST: the channel is offered, where it is that of the service which the host waits for
abbrev pub offers_service : HostSeen → ℕ → ℕ → ℕ → HostTurn
offers_service h place port relid = record (at_rest h) { awaits = AwaitsList place; channels = h.channels ++ offered_life ∷ []; burst = One (offer_service port relid) }

abbrev pub connects_to : HostSeen → ℕ → Opening → List ℕ → Option ℕ → HostTurn
connects_to h place o service None = at_rest h
connects_to h place o service (Some port) = if bytes_eq service (service_id port) then offers_service h place port o.relid else at_rest h

abbrev pub connects : HostSeen → ℕ → List ℕ → Option Opening → HostTurn
connects h place service None = at_rest h
connects h place service (Some o) = connects_to h place o service o.dialed

abbrev pub on_connect : HostSeen → HostWait → List ℕ → HostTurn
on_connect h (Connect place) service = connects h place service (opening_for h place)
on_connect h _ service = at_rest h

-- a channel's page list came: it is created once it is whole; behind that of the receive buffer that of the send buffer comes, and behind both the next opening
abbrev pub filled_then : HostSeen → ℕ → Buffer → HostWait
filled_then h place Receive = Fill place Send
filled_then h place Send = waits_list h h.part (place + 1) (opening_for h (place + 1))

abbrev pub is_list_of : Buffer → ℕ → ℕ → Option Opening → Bool
is_list_of k relid gpadl None = false
is_list_of k relid gpadl (Some o) = (o.relid == relid) && (buffer_list o k == gpadl)

abbrev pub listed : HostSeen → HostWait → Partial → HostWait
listed h (AwaitsList place) p = if is_of p.relid (opening_for h place) then Open place else AwaitsList place
listed h (Fill place k) p = if is_list_of k p.relid p.handle (opening_for h place) then filled_then h place k else Fill place k
listed h awaits p = awaits

abbrev pub lists_by : HostSeen → Assembly → Option Partial → HostTurn
lists_by h lists None = record (at_rest h) { lists = lists }
lists_by h lists (Some p) =
    if length p.pages == p.want then record (at_rest h) { awaits = listed h h.awaits p; lists = lists; burst = One (created p.relid p.handle) } else
    record (at_rest h) { lists = lists }

-- GPADL_HEADER and GPADL_BODY, which go to the assembler
abbrev pub on_piece : HostSeen → Msg → Option GpadlFault → Result HostTurn ControlFault
on_piece h m None = Ok (lists_by h (next h.lists m) (built h.lists.building m))
on_piece h m (Some fault) = Err (Gpadl fault)

abbrev pub on_header : HostSeen → ℕ → Msg → Option ChanState → Result HostTurn ControlFault
on_header h relid m None = Err (Relid relid)
on_header h relid m (Some life) = on_piece h m (fault_of h.lists m)

-- a channel goes on
abbrev pub goes_on : HostSeen → ℕ → ChanState → State → List ChanState
goes_on h relid life state = slice_set h.channels (relid - 1) (stands life state)

-- once a channel is open, the page lists of its buffers come, where it has some, and the host goes on with the next opening
abbrev pub has_buffers_at : Option Opening → Bool
has_buffers_at None = false
has_buffers_at (Some o) = o.buffers

abbrev pub waits_behind : HostSeen → ℕ → HostWait
waits_behind h place = if has_buffers_at (opening_for h place) then Fill place Receive else waits_list h h.part (place + 1) (opening_for h (place + 1))

-- OPENCHANNEL, answered by status 0 where the table says so; behind the answer the sub-channels of the device are offered, where this is its first channel and
-- the host waited for it
abbrev pub opened_then : HostSeen → HostWait → ℕ → HostWait
opened_then h (Open place) relid = if is_of relid (opening_for h place) then waits_behind h place else Open place
opened_then h awaits relid = awaits

abbrev pub with_offers : HostSeen → HostWait → ℕ → Msg → Burst
with_offers h (Open place) relid m = if is_of relid (opening_for h place) then Opens m h.part place else One m
with_offers h awaits relid m = One m

abbrev pub opened_burst : HostSeen → ℕ → ℕ → Action → Burst
opened_burst h relid openid SendResult = with_offers h h.awaits relid (opened relid openid)
opened_burst h relid openid _ = Empty

abbrev pub subs_offered : HostSeen → HostWait → ℕ → List Opening
subs_offered h (Open place) relid = if is_of relid (opening_for h place) then subs_behind h.plan h.part place else []
subs_offered h awaits relid = []

abbrev pub opened_subs : HostSeen → ℕ → Action → List Opening
opened_subs h relid SendResult = subs_offered h h.awaits relid
opened_subs h relid _ = []

abbrev pub with_subs : List ChanState → List Opening → List ChanState
with_subs channels subs = channels ++ replicate (length subs) offered_life

abbrev pub open_turn : HostSeen → ℕ → ℕ → ChanState → Action → HostTurn
open_turn h relid openid now action =
    record (at_rest h) { awaits = opened_then h h.awaits relid; channels = with_subs (slice_set h.channels (relid - 1) now) (opened_subs h relid action); burst = opened_burst h relid openid action }

abbrev pub open_by : HostSeen → ℕ → ℕ → ChanState → Option (State × Action) → Result HostTurn ControlFault
open_by h relid openid life None = Err (StateFault (record { state = life.state; event = OpenSeen }))
open_by h relid openid life (Some row) = Ok (open_turn h relid openid (stands life row.0) row.1)

abbrev pub on_open : HostSeen → ℕ → ℕ → Option ChanState → Result HostTurn ControlFault
on_open h relid openid None = Err (Relid relid)
on_open h relid openid (Some life) = open_by h relid openid life (row_of life OpenSeen)

-- MODIFYCHANNEL, answered by status 0 where the table says so; the host goes on with the next channel that is moved, where it waited for this one
abbrev pub moved_then : HostSeen → HostWait → ℕ → HostWait
moved_then h (Modify place) relid = if is_of relid (mover_in h h.part place) then waits_move (place + 1) (mover_in h h.part (place + 1)) else Modify place
moved_then h awaits relid = awaits

abbrev pub moved_burst : ℕ → Action → Burst
moved_burst relid SendModified = One (modified relid)
moved_burst relid _ = Empty

abbrev pub modify_by : HostSeen → ℕ → ℕ → ChanState → Option (State × Action) → Result HostTurn ControlFault
modify_by h relid vp life None = Err (StateFault (record { state = life.state; event = ModifySeen vp (is_answered h.version) }))
modify_by h relid vp life (Some row) =
    Ok (record (at_rest h) { awaits = moved_then h h.awaits relid; channels = slice_set h.channels (relid - 1) (goes_by life (ModifySeen vp (is_answered h.version)) row.0); burst = moved_burst relid row.1 })

abbrev pub on_modify : HostSeen → ℕ → ℕ → Option ChanState → Result HostTurn ControlFault
on_modify h relid vp None = Err (Relid relid)
on_modify h relid vp (Some life) = modify_by h relid vp life (row_of life (ModifySeen vp (is_answered h.version)))

-- CLOSECHANNEL
abbrev pub closed_then : HostSeen → HostWait → ℕ → HostWait
closed_then h (Close place) relid = if is_of relid (opening_for h place) then Teardown place else Close place
closed_then h awaits relid = awaits

abbrev pub close_by : HostSeen → ℕ → ChanState → Option (State × Action) → Result HostTurn ControlFault
close_by h relid life None = Err (StateFault (record { state = life.state; event = CloseSeen }))
close_by h relid life (Some row) = Ok (record (at_rest h) { awaits = closed_then h h.awaits relid; channels = goes_on h relid life row.0 })

abbrev pub on_close : HostSeen → ℕ → Option ChanState → Result HostTurn ControlFault
on_close h relid None = Err (Relid relid)
on_close h relid (Some life) = close_by h relid life (row_of life CloseSeen)

-- it waits for what it waited for
abbrev pub stays : HostSeen → HostNext
stays h = waits h.awaits

-- the channel of the opening at a place is done with, where it is this one, and the host goes on with the next opening
abbrev pub ended_at : HostSeen → ℕ → ℕ → HostNext
ended_at h place relid = if is_of relid (opening_for h place) then next_end h.channels (place + 1) (opening_for h (place + 1)) else stays h

-- GPADL_TEARDOWN: the page list isn't live any more, and the host goes on with the next opening; but a sub-channel, which stands so then, is rescinded
abbrev pub torn_one : HostSeen → ℕ → ℕ → ChanState → Opening → HostNext
torn_one h place relid life o =
    if (o.relid == relid) && is_sub o then record { awaits = Release place; rescinds = wants_rescind o (Some life) } else ended_at h place relid

abbrev pub torn_for : HostSeen → ℕ → ℕ → ChanState → Option Opening → HostNext
torn_for h place relid life None = stays h
torn_for h place relid life (Some o) = torn_one h place relid life o

abbrev pub torn_then : HostSeen → HostWait → ℕ → ChanState → HostNext
torn_then h (Teardown place) relid life = torn_for h place relid life (opening_for h place)
torn_then h awaits relid life = stays h

abbrev pub lists_torn : Assembly → ℕ → Action → Assembly
lists_torn lists gpadl SendTorndown = without lists gpadl
lists_torn lists gpadl _ = lists

abbrev pub torn_answer : ℕ → Action → Option Msg
torn_answer gpadl SendTorndown = Some (torndown gpadl)
torn_answer gpadl _ = None

abbrev pub teardown_by : HostSeen → ℕ → ℕ → ChanState → Option (State × Action) → Result HostTurn ControlFault
teardown_by h relid gpadl life None = Err (StateFault (record { state = life.state; event = TeardownSeen }))
teardown_by h relid gpadl life (Some row) =
    Ok (goes_next (record (at_rest h) { channels = goes_on h relid life row.0; lists = lists_torn h.lists gpadl row.1 }) (torn_answer gpadl row.1) (torn_then h h.awaits relid (stands life row.0)))

-- but for the page list of a buffer the channel doesn't go on: it isn't live any more, and behind that of the send buffer that of the receive buffer is torn down, and behind both the channel closed
abbrev pub emptied_next : ℕ → Buffer → HostWait
emptied_next place Send = AwaitsEmpty place Receive
emptied_next place Receive = Close place

abbrev pub emptied_then : HostSeen → HostWait → ℕ → ℕ → HostWait
emptied_then h (AwaitsEmpty place k) relid gpadl = if is_list_of k relid gpadl (opening_for h place) then emptied_next place k else AwaitsEmpty place k
emptied_then h awaits relid gpadl = awaits

abbrev pub empties_one : HostSeen → ℕ → ℕ → HostTurn
empties_one h relid gpadl = record (at_rest h) { awaits = emptied_then h h.awaits relid gpadl; lists = without h.lists gpadl; burst = One (torndown gpadl) }

-- the rescind of a channel ends its page lists, so no handle is asked of it then
abbrev pub is_rescinded : State → Bool
is_rescinded IsRescinded = true
is_rescinded _ = false

abbrev pub tears_live : HostSeen → ℕ → ℕ → ChanState → Result HostTurn ControlFault
tears_live h relid gpadl life = if is_buffer_in h.plan h.part relid gpadl then Ok (empties_one h relid gpadl) else teardown_by h relid gpadl life (row_of life TeardownSeen)

abbrev pub tears_known : HostSeen → ℕ → ℕ → ChanState → Result HostTurn ControlFault
tears_known h relid gpadl life = if is_live h.lists.live gpadl then tears_live h relid gpadl life else Err (Gpadl (Handle gpadl))

abbrev pub on_teardown : HostSeen → ℕ → ℕ → Option ChanState → Result HostTurn ControlFault
on_teardown h relid gpadl None = Err (Relid relid)
on_teardown h relid gpadl (Some life) =
    if is_rescinded life.state then teardown_by h relid gpadl life (row_of life TeardownSeen) else tears_known h relid gpadl life

-- RELID_RELEASED
abbrev pub released_then : HostSeen → HostWait → ℕ → HostNext
released_then h (Release place) relid = ended_at h place relid
released_then h awaits relid = stays h

abbrev pub release_by : HostSeen → ℕ → ChanState → Option (State × Action) → Result HostTurn ControlFault
release_by h relid life None = Err (StateFault (record { state = life.state; event = ReleaseSeen }))
release_by h relid life (Some row) = Ok (goes_next (record (at_rest h) { channels = goes_on h relid life row.0 }) None (released_then h h.awaits relid))

abbrev pub on_release : HostSeen → ℕ → Option ChanState → Result HostTurn ControlFault
on_release h relid None = Err (Relid relid)
on_release h relid (Some life) = release_by h relid life (row_of life ReleaseSeen)

-- UNLOAD
abbrev pub on_unload : HostSeen → HostWait → HostTurn
on_unload h AwaitsUnload = record (at_rest h) { awaits = Nothing; burst = One farewell_taken }
on_unload h _ = at_rest h

-- the host's table: what comes of each message, or why it is refused
abbrev pub host_hears : HostSeen → Msg → Result HostTurn ControlFault
host_hears h (RequestOffers padding) = Ok (on_request h h.awaits)
host_hears h (OpenChannel padding relid openid gpadl target_vp downstream user) = on_open h relid openid (by_relid h.channels relid)
host_hears h (ModifyChannel padding relid target_vp) = on_modify h relid target_vp (by_relid h.channels relid)
host_hears h (CloseChannel padding relid) = on_close h relid (by_relid h.channels relid)
host_hears h (GpadlHeader header) = on_header h header.relid (GpadlHeader header) (by_relid h.channels header.relid)
host_hears h (GpadlBody body) = on_piece h (GpadlBody body) (fault_of h.lists (GpadlBody body))
host_hears h (GpadlTeardown padding relid gpadl) = on_teardown h relid gpadl (by_relid h.channels relid)
host_hears h (RelidReleased padding relid) = on_release h relid (by_relid h.channels relid)
host_hears h (InitiateContact padding asked target_vcpu page monitor1 monitor2) = Ok (on_contact h h.awaits asked)
host_hears h (UnloadSeen padding) = Ok (on_unload h h.awaits)
host_hears h (TlConnectRequest padding guest_endpoint host_service) = Ok (on_connect h h.awaits host_service)
host_hears h m = Err (Unasked (type_of m))

-- a host after a turn in which it sent these messages, and was fed these
abbrev pub host_after : HostSeen → Option Part → HostTurn → List Msg → List Msg → HostSeen
host_after h part turn sent fed = record {
  plan = h.plan;
  part = part;
  awaits = turn.awaits;
  version = turn.version;
  channels = turn.channels;
  lists = turn.lists;
  posted = h.posted ++ sent;
  fed = h.fed ++ fed;
}

-- a part begins: it sends what the part begins with
pub record HostBegins (old : HostSeen) (part : Part) (sent : List Msg) (new : HostSeen) : Type 0 where
  pub sends : Sends old.plan (host_begins old part).burst sent
  pub now : new ≡ host_after old (Some part) (host_begins old part) sent []

-- a message is taken: what comes of it is sent
pub record HostTakes (old : HostSeen) (m : Msg) (sent : List Msg) (new : HostSeen) : Type 0 where
  pub turn : HostTurn
  pub hears : host_hears old m ≡ Ok turn
  pub sends : Sends old.plan turn.burst sent
  pub now : new ≡ host_after old old.part turn sent (m ∷ [])
