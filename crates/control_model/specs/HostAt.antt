-- Where a host stands, by its part and what it waits for: its channels and its page lists, and what it has still to say and to hear.
use Rattle.std.specs.Prelude.{◌≡◌, ℕ, suc, ◌<◌, not, true, false, is_some, List, [], ◌∷◌, ◌++◌, length, map, drop, filter, Option, Some, None}
use Rattle.std.specs.List.{flat_map, list_any}
use Rattle.contact.specs.declared.version.Version.{Version}
use Rattle.contact.specs.declared.part.Part.{Part}
use Rattle.contact.specs.declared.part.Part.TheVariants.{Contact, PhaseStart, PhaseEnd, Unload}
use Rattle.contact.specs.Versions.{versions_tried}
use Rattle.contact.specs.Classes.{offers_from}
use Rattle.chan_state.specs.declared.state.State.TheVariants.{Opened, Closing, Rescinded}
use Rattle.chan_state.specs.declared.chan_state.ChanState.{ChanState}
use Rattle.gpadl.specs.Assembly.{Assembly}
use Rattle.gpadl.specs.Whole.{after}
use Rattle.gpadl.specs.Cut.{cut}
use Rattle.vmbus_msg.specs.declared.msg.Msg.{Msg}
use Rattle.control_model.specs.declared.opening.Opening.{Opening}
use Rattle.control_model.specs.declared.buffer.Buffer.{Buffer}
use Rattle.control_model.specs.declared.buffer.Buffer.TheVariants.{Receive, Send}
use Rattle.control_model.specs.declared.host_wait.HostWait.{HostWait}
use Rattle.control_model.specs.declared.host_wait.HostWait.TheVariants.{Nothing, Contact as AwaitsContact, Request, Connect, List as AwaitsList, Open, Fill, Modify, Empty as AwaitsEmpty, Close, Teardown, Release, Unload as AwaitsUnload}
use Rattle.control_model.specs.Plan.{BusPlan, buffer_list, phase_of, closing_of, vp_for}
use Rattle.control_model.specs.Messages.{propose, request, delivered, pages_from, buffer_pages, teardown, teardown_buffer, release, farewell, farewell_taken}
use Rattle.control_model.specs.Said.{answer_to, guest_opens, host_opens_all, moved, guest_moves, host_moves, guest_closes, host_closes, only_sub, ends_given_back, said_by_guest, said_by_host}
use Rattle.control_model.specs.Host.{HostSeen, without, without_buffers}
use Rattle.control_model.specs.Stand.{At, EndsAt, offered_before, offered_by, offered_for, marked, vps_before, host_is, host_ends, host_before, Tries, Agreed, Meet, handles, has_list}
use Rattle.control_model.specs.GuestAt.{guest_from, host_from, opens_listed, answers_list, answers_open, fills_listed, answers_fill, closes_rings, empties_behind, emptied_left, torn_left, gives_one}

-- of the contact, where these versions are still to be tried
abbrev pub host_contact_to_say : BusPlan → HostWait → List ℕ → List Msg
host_contact_to_say plan AwaitsContact tried = map (answer_to plan) tried ++ (offers_from 1 plan.kinds ++ delivered ∷ [])
host_contact_to_say plan Request tried = offers_from 1 plan.kinds ++ delivered ∷ []
host_contact_to_say plan awaits tried = []

abbrev pub host_contact_to_hear : HostWait → List ℕ → List Msg
host_contact_to_hear AwaitsContact tried = map propose tried ++ request ∷ []
host_contact_to_hear Request tried = request ∷ []
host_contact_to_hear awaits tried = []

-- of a phase's start, where these messages of a page list are still to come: the channel is opened behind them
abbrev pub host_start_to_say : List Opening → HostWait → List Msg
host_start_to_say os (Connect place) = host_opens_all (drop place os)
host_start_to_say os (AwaitsList place) = answers_list (drop place os)
host_start_to_say os (Open place) = answers_open (drop place os)
host_start_to_say os (Fill place k) = answers_fill k (drop place os)
host_start_to_say os awaits = []

abbrev pub host_start_to_hear : List Opening → HostWait → List Msg → List Msg
host_start_to_hear os (Connect place) pieces = flat_map guest_opens (drop place os)
host_start_to_hear os (AwaitsList place) pieces = pieces ++ opens_listed (drop place os)
host_start_to_hear os (Open place) pieces = opens_listed (drop place os)
host_start_to_hear os (Fill place k) pieces = pieces ++ fills_listed k (drop place os)
host_start_to_hear os awaits pieces = []

-- behind its openings the channels are moved, one by one
abbrev pub host_moves_to_say : BusPlan → List Opening → HostWait → List Msg
host_moves_to_say plan os Nothing = []
host_moves_to_say plan os (Modify place) = drop place (host_moves plan os)
host_moves_to_say plan os awaits = host_moves plan os

abbrev pub host_moves_to_hear : BusPlan → List Opening → HostWait → List Msg
host_moves_to_hear plan os Nothing = []
host_moves_to_hear plan os (Modify place) = drop place (guest_moves plan os)
host_moves_to_hear plan os awaits = guest_moves plan os

-- of a phase's end: a channel that was closed has its page list torn down, and is given back where it is a sub-channel
abbrev pub tears_down : List Opening → List Msg
tears_down [] = []
tears_down (o ∷ os) = teardown o ∷ (only_sub o (release o.relid) ++ flat_map guest_closes os)

abbrev pub closes_left : List Opening → List Msg
closes_left [] = []
closes_left (o ∷ os) = closes_rings o ++ flat_map guest_closes os

abbrev pub tears_left : Buffer → List Opening → List Msg
tears_left k [] = []
tears_left k (o ∷ os) = teardown_buffer o k ∷ (empties_behind o k ++ flat_map guest_closes os)

abbrev pub host_end_to_say : List Opening → HostWait → List Msg
host_end_to_say os (AwaitsEmpty place k) = emptied_left k (drop place os)
host_end_to_say os (Close place) = torn_left (drop place os)
host_end_to_say os (Teardown place) = torn_left (drop place os)
host_end_to_say os (Release place) = flat_map host_closes (drop (suc place) os)
host_end_to_say os awaits = []

abbrev pub host_end_to_hear : List Opening → HostWait → List Msg
host_end_to_hear os (AwaitsEmpty place k) = tears_left k (drop place os)
host_end_to_hear os (Close place) = closes_left (drop place os)
host_end_to_hear os (Teardown place) = tears_down (drop place os)
host_end_to_hear os (Release place) = gives_one (drop place os)
host_end_to_hear os awaits = []

-- of the farewell
abbrev pub unload_to_take : HostWait → List Msg
unload_to_take AwaitsUnload = farewell ∷ []
unload_to_take awaits = []

abbrev pub unload_to_answer : HostWait → List Msg
unload_to_answer AwaitsUnload = farewell_taken ∷ []
unload_to_answer awaits = []

-- all that a host has still to say
abbrev pub host_to_say : BusPlan → Option Part → HostWait → List ℕ → List Msg
host_to_say plan None awaits tried = said_by_host plan
host_to_say plan (Some Contact) awaits tried = host_contact_to_say plan awaits tried ++ host_from plan 0
host_to_say plan (Some (PhaseStart phase)) awaits tried = host_start_to_say (phase_of plan phase) awaits ++ (host_moves_to_say plan (phase_of plan phase) awaits ++ (flat_map host_closes (closing_of plan phase) ++ host_from plan (suc phase)))
host_to_say plan (Some (PhaseEnd phase)) awaits tried = host_end_to_say (closing_of plan phase) awaits ++ host_from plan (suc phase)
host_to_say plan (Some Unload) awaits tried = unload_to_answer awaits

-- and all that it has still to hear
abbrev pub host_to_hear : BusPlan → Option Part → HostWait → List ℕ → List Msg → List Msg
host_to_hear plan None awaits tried pieces = said_by_guest plan
host_to_hear plan (Some Contact) awaits tried pieces = host_contact_to_hear awaits tried ++ guest_from plan 0
host_to_hear plan (Some (PhaseStart phase)) awaits tried pieces = host_start_to_hear (phase_of plan phase) awaits pieces ++ (host_moves_to_hear plan (phase_of plan phase) awaits ++ (flat_map guest_closes (closing_of plan phase) ++ guest_from plan (suc phase)))
host_to_hear plan (Some (PhaseEnd phase)) awaits tried pieces = host_end_to_hear (closing_of plan phase) awaits ++ guest_from plan (suc phase)
host_to_hear plan (Some Unload) awaits tried pieces = unload_to_take awaits

-- no page list is being built, and those with these handles are live
abbrev pub live_ones : List ℕ → Assembly
live_ones live = record { building = None; live = live }

-- the page lists of a phase are live, but for those of these openings, which are done with
abbrev pub lists_but : List Opening → List Opening → Assembly
lists_but done os = live_ones (filter (λ handle. not (list_any (λ o. has_list o handle) done)) (handles os))

-- once a network's channel is open, the list of its receive buffer comes beside that of its rings, and then that of its send buffer
abbrev pub lists_before : Opening → Buffer → List ℕ
lists_before o Receive = o.gpadl ∷ []
lists_before o Send = o.gpadl ∷ buffer_list o Receive ∷ []

-- at the end that of the send buffer is let go first
abbrev pub lists_beside : Assembly → Opening → Buffer → Assembly
lists_beside lists o Send = lists
lists_beside lists o Receive = without lists (buffer_list o Send)

-- a page list of the channel with this relid comes, beside those that are live: its first messages were taken, and these are still to come
pub record ListComes (live : List ℕ) (relid handle : ℕ) (pages : List ℕ) (lists : Assembly) (pieces : List Msg) : Type 0 where
  pub came : List Msg
  pub whole : cut relid handle pages ≡ came ++ pieces
  pub lists_are : lists ≡ after (live_ones live) came

-- The version, the channels and the page lists of a host, a row for each part and what it waits for; while it waits for a contact these versions are still to be
-- tried, and while it waits for a page list these messages of it are still to come.
pub data HostStands (plan : BusPlan) : Option Part → HostWait → Option Version → List ChanState → Assembly → List ℕ → List Msg → Type 0 where
  -- no part has begun
  fresh : HostStands plan None Nothing None [] (live_ones []) [] []
  -- a version is to be proposed; one was accepted, and the offers are to be asked for; all were sent
  answers : (v : Version) → Tries plan v → HostStands plan (Some Contact) AwaitsContact None [] (live_ones []) (versions_tried v.0 plan.host.0) []
  accepts : (v : Version) → Agreed plan v → HostStands plan (Some Contact) Request (Some v) [] (live_ones []) [] []
  contacted : (v : Version) (channels : List ChanState) → Meet plan v channels (offered_before plan 0) (host_before (vps_before plan 0) plan 0) → HostStands plan (Some Contact) Nothing (Some v) channels (live_ones []) [] []
  -- a service is to be asked for; a channel's page list comes; the channel is to be opened; all channels of the phase are open, and some of those that it moves are still
  -- to be moved; all are
  connects : (v : Version) (channels : List ChanState) (phase place : ℕ) (done : List Opening) (o : Opening) (left : List Opening) → At plan phase place done o left → is_some o.dialed ≡ true
      → Meet plan v channels (offered_by plan phase done (o ∷ left)) (marked (host_is (vps_before plan phase) Opened) done (host_before (vps_before plan phase) plan phase)) → HostStands plan (Some (PhaseStart phase)) (Connect place) (Some v) channels (live_ones (handles done)) [] []
  lists : (v : Version) (channels : List ChanState) (phase place : ℕ) (done : List Opening) (o : Opening) (left : List Opening) (assembly : Assembly) (m : Msg) (ms : List Msg) → At plan phase place done o left
      → Meet plan v channels (offered_for plan phase done o left) (marked (host_is (vps_before plan phase) Opened) done (host_before (vps_before plan phase) plan phase)) → ListComes (handles done) o.relid o.gpadl (pages_from o) assembly (m ∷ ms) → HostStands plan (Some (PhaseStart phase)) (AwaitsList place) (Some v) channels assembly [] (m ∷ ms)
  listed : (v : Version) (channels : List ChanState) (phase place : ℕ) (done : List Opening) (o : Opening) (left : List Opening) → At plan phase place done o left
      → Meet plan v channels (offered_for plan phase done o left) (marked (host_is (vps_before plan phase) Opened) done (host_before (vps_before plan phase) plan phase)) → HostStands plan (Some (PhaseStart phase)) (Open place) (Some v) channels (live_ones (handles done ++ o.gpadl ∷ [])) [] []
  -- the page list of a buffer of an open channel comes
  fills : (v : Version) (channels : List ChanState) (phase place : ℕ) (done : List Opening) (o : Opening) (left : List Opening) (k : Buffer) (assembly : Assembly) (m : Msg) (ms : List Msg) → At plan phase place done o left → o.buffers ≡ true
      → Meet plan v channels (offered_for plan phase done o left) (marked (host_is (vps_before plan phase) Opened) (done ++ o ∷ []) (host_before (vps_before plan phase) plan phase))
      → ListComes (handles done ++ lists_before o k) o.relid (buffer_list o k) (buffer_pages o k) assembly (m ∷ ms) → HostStands plan (Some (PhaseStart phase)) (Fill place k) (Some v) channels assembly [] (m ∷ ms)
  moves : (v : Version) (channels : List ChanState) (phase place : ℕ) (done : List Opening) (o : Opening) (left : List Opening) → phase < length plan.phases → moved plan (phase_of plan phase) ≡ done ++ o ∷ left → place ≡ length done
      → Meet plan v channels (offered_before plan (suc phase)) (marked (host_is (marked vp_for done (vps_before plan phase)) Opened) (phase_of plan phase) (host_before (marked vp_for done (vps_before plan phase)) plan phase))
      → HostStands plan (Some (PhaseStart phase)) (Modify place) (Some v) channels (live_ones (handles (phase_of plan phase))) [] []
  started : (v : Version) (channels : List ChanState) (phase : ℕ) → phase < length plan.phases
      → Meet plan v channels (offered_before plan (suc phase)) (marked (host_is (vps_before plan (suc phase)) Opened) (phase_of plan phase) (host_before (vps_before plan (suc phase)) plan phase)) → HostStands plan (Some (PhaseStart phase)) Nothing (Some v) channels (live_ones (handles (phase_of plan phase))) [] []
  -- the page list of a buffer is to be torn down
  empties : (v : Version) (channels : List ChanState) (phase place : ℕ) (done : List Opening) (o : Opening) (left : List Opening) (k : Buffer) → EndsAt plan phase place done o left → o.rescinded ≡ false → o.buffers ≡ true
      → Meet plan v channels (offered_before plan (suc phase)) (marked (host_ends (vps_before plan (suc phase))) done (marked (host_is (vps_before plan (suc phase)) Opened) (o ∷ left) (host_before (vps_before plan (suc phase)) plan phase))) → HostStands plan (Some (PhaseEnd phase)) (AwaitsEmpty place k) (Some v) channels (lists_beside (lists_but done (phase_of plan phase)) o k) [] []
  -- a channel is to be closed; its page list is to be torn down; one is rescinded, with its page list, and to be given back; all channels of the phase are done with
  closes : (v : Version) (channels : List ChanState) (phase place : ℕ) (done : List Opening) (o : Opening) (left : List Opening) → EndsAt plan phase place done o left → o.rescinded ≡ false
      → Meet plan v channels (offered_before plan (suc phase)) (marked (host_ends (vps_before plan (suc phase))) done (marked (host_is (vps_before plan (suc phase)) Opened) (o ∷ left) (host_before (vps_before plan (suc phase)) plan phase))) → HostStands plan (Some (PhaseEnd phase)) (Close place) (Some v) channels (without_buffers (lists_but done (phase_of plan phase)) o) [] []
  tears : (v : Version) (channels : List ChanState) (phase place : ℕ) (done : List Opening) (o : Opening) (left : List Opening) → EndsAt plan phase place done o left → o.rescinded ≡ false
      → Meet plan v channels (offered_before plan (suc phase)) (marked (host_ends (vps_before plan (suc phase))) done (marked (host_is (vps_before plan (suc phase)) Closing) (o ∷ []) (marked (host_is (vps_before plan (suc phase)) Opened) left (host_before (vps_before plan (suc phase)) plan phase)))) → HostStands plan (Some (PhaseEnd phase)) (Teardown place) (Some v) channels (without_buffers (lists_but done (phase_of plan phase)) o) [] []
  takes_back : (v : Version) (channels : List ChanState) (phase place : ℕ) (done : List Opening) (o : Opening) (left : List Opening) → EndsAt plan phase place done o left → ends_given_back o ≡ true
      → Meet plan v channels (offered_before plan (suc phase)) (marked (host_ends (vps_before plan (suc phase))) done (marked (host_is (vps_before plan (suc phase)) Rescinded) (o ∷ []) (marked (host_is (vps_before plan (suc phase)) Opened) left (host_before (vps_before plan (suc phase)) plan phase)))) → HostStands plan (Some (PhaseEnd phase)) (Release place) (Some v) channels (lists_but (done ++ o ∷ []) (phase_of plan phase)) [] []
  ended : (v : Version) (channels : List ChanState) (phase : ℕ) → phase < length plan.phases → Meet plan v channels (offered_before plan (suc phase)) (host_before (vps_before plan (suc phase)) plan (suc phase)) → HostStands plan (Some (PhaseEnd phase)) Nothing (Some v) channels (live_ones []) [] []
  -- the farewell is to be said; it is over
  leaves : (v : Version) (channels : List ChanState) → Meet plan v channels (offered_before plan (length plan.phases)) (host_before (vps_before plan (length plan.phases)) plan (length plan.phases)) → HostStands plan (Some Unload) AwaitsUnload (Some v) channels (live_ones []) [] []
  is_over : (v : Version) (channels : List ChanState) → Meet plan v channels (offered_before plan (length plan.phases)) (host_before (vps_before plan (length plan.phases)) plan (length plan.phases)) → HostStands plan (Some Unload) Nothing (Some v) channels (live_ones []) [] []

-- a host stands so, said the front of all that it says, and heard the front of all that its guest says; where it stands tells what is left of both
pub record HostAt (plan : BusPlan) (h : HostSeen) : Type 0 where
  pub plan_is : h.plan ≡ plan
  pub tried : List ℕ
  pub pieces : List Msg
  pub stands : HostStands plan h.part h.awaits h.version h.channels h.lists tried pieces
  pub said : said_by_host plan ≡ h.posted ++ host_to_say plan h.part h.awaits tried
  pub heard : said_by_guest plan ≡ h.fed ++ host_to_hear plan h.part h.awaits tried pieces
