-- Where a guest stands, by its part and what it waits for: its channels, and what it has still to say and to hear.
use Rattle.std.specs.Prelude.{◌≡◌, ℕ, suc, ◌+◌, ◌-◌, ◌<◌, ◌≤◌, true, false, List, [], ◌∷◌, ◌++◌, length, map, drop, replicate, is_some, Option, Some, None}
use Rattle.std.specs.List.{AllByRecursion, flat_map}
use Rattle.contact.specs.declared.version.Version.{Version}
use Rattle.contact.specs.declared.part.Part.{Part}
use Rattle.contact.specs.declared.part.Part.TheVariants.{Contact, PhaseStart, PhaseEnd, Unload}
use Rattle.contact.specs.Versions.{versions_tried, answers_modify}
use Rattle.contact.specs.Classes.{offers_from}
use Rattle.chan_state.specs.declared.state.State.TheVariants.{Opening as IsOpening, Opened as IsOpened, Modifying as IsModifying, Closing, Closed as IsClosed}
use Rattle.vmbus_msg.specs.declared.msg.Msg.{Msg}
use Rattle.control_model.specs.declared.opening.Opening.{Opening}
use Rattle.control_model.specs.declared.buffer.Buffer.{Buffer}
use Rattle.control_model.specs.declared.buffer.Buffer.TheVariants.{Receive, Send}
use Rattle.control_model.specs.declared.channel.Channel.{Channel}
use Rattle.control_model.specs.declared.guest_wait.GuestWait.{GuestWait}
use Rattle.control_model.specs.declared.guest_wait.GuestWait.TheVariants.{Nothing, Response, Offers, SubOffer, ServiceOffer, Created, Opened, Listed, Modified, Unlisted, Torn, Rescinded, Unloaded}
use Rattle.control_model.specs.Plan.{BusPlan, buffer_list, phase_of, closing_of, is_sub, first_subs, subs_next}
use Rattle.control_model.specs.Messages.{propose, request, delivered, created, open_on, opened, offer_sub, close, teardown, teardown_buffer, torndown, release, rescind, farewell, farewell_taken}
use Rattle.control_model.specs.Said.{answer_to, guest_lists, guest_buffer, guest_buffers, host_buffer, host_buffers, guest_opens, host_opens_all, guest_closes, host_closes, only_sub, moved, guest_moves, host_moves, guest_in_phase, host_in_phase, from_3_0, said_by_guest, said_by_host}
use Rattle.control_model.specs.Guest.{GuestSeen, offered_channel}
use Rattle.control_model.specs.Stand.{At, EndsAt, offered_before, offered_by, offered_for, marked, vps_before, guest_is, guest_ends, guest_before, Tries, Agreed, Meet}

-- from a phase on: the phases that are left, and the farewell
abbrev pub guest_from : BusPlan → ℕ → List Msg
guest_from plan phase = flat_map (guest_in_phase plan) (drop phase plan.phases) ++ from_3_0 plan (farewell ∷ [])

abbrev pub host_from : BusPlan → ℕ → List Msg
host_from plan phase = flat_map (host_in_phase plan) (drop phase plan.phases) ++ from_3_0 plan (farewell_taken ∷ [])

-- of the contact: after the proposal of a version, those of the lower ones that are tried
abbrev pub contact_to_say : BusPlan → GuestWait → List Msg
contact_to_say plan (Response v) = map propose (drop 1 (versions_tried v.0 plan.host.0)) ++ request ∷ []
contact_to_say plan awaits = []

abbrev pub contact_to_hear : BusPlan → GuestWait → ℕ → List Msg
contact_to_hear plan (Response v) channels = map (answer_to plan) (versions_tried v.0 plan.host.0) ++ (offers_from 1 plan.kinds ++ delivered ∷ [])
contact_to_hear plan Offers channels = offers_from (channels + 1) (drop channels plan.kinds) ++ delivered ∷ []
contact_to_hear plan awaits channels = []

-- of a phase's start: once a service was asked for, its channel is offered, and the page list sent; once a page list was sent, its channel is opened; once that was asked for, its answer comes, and behind that of a device's first channel
-- the offers of its sub-channels; once all of these came, the first one's page list is sent
abbrev pub lists_dialed : List Opening → List Msg
lists_dialed [] = []
lists_dialed (o ∷ os) = guest_lists o ++ flat_map guest_opens os

abbrev pub opens_listed : List Opening → List Msg
opens_listed [] = []
opens_listed (o ∷ os) = open_on o ∷ (guest_buffers o ++ flat_map guest_opens os)

abbrev pub fills_opened : List Opening → List Msg
fills_opened [] = []
fills_opened (o ∷ os) = guest_buffers o ++ flat_map guest_opens os

abbrev pub answers_open : List Opening → List Msg
answers_open [] = []
answers_open (o ∷ os) = opened o.relid o.relid ∷ (host_buffers o ++ (map offer_sub (subs_next (o ∷ os)) ++ host_opens_all os))

abbrev pub answers_list : List Opening → List Msg
answers_list [] = []
answers_list (o ∷ os) = created o.relid o.gpadl ∷ answers_open (o ∷ os)

-- once the page list of a buffer was sent, that of the send buffer follows that of the receive buffer, and each is created
abbrev pub fills_behind : Opening → Buffer → List Msg
fills_behind o Receive = guest_buffer o Send
fills_behind o Send = []

abbrev pub fills_listed : Buffer → List Opening → List Msg
fills_listed k [] = []
fills_listed k (o ∷ os) = fills_behind o k ++ flat_map guest_opens os

abbrev pub answers_behind : Opening → Buffer → List Msg
answers_behind o Receive = host_buffer o Receive ∷ host_buffer o Send ∷ []
answers_behind o Send = host_buffer o Send ∷ []

abbrev pub answers_fill : Buffer → List Opening → List Msg
answers_fill k [] = []
answers_fill k (o ∷ os) = answers_behind o k ++ (map offer_sub (subs_next (o ∷ os)) ++ host_opens_all os)

-- from the first sub-channel of the device whose sub-channel has this place
abbrev pub from_first_sub : List Opening → ℕ → List Opening → List Opening
from_first_sub os place [] = []
from_first_sub os place (o ∷ left) = drop (place + 1 - o.sub) os

abbrev pub start_to_say : List Opening → GuestWait → List Msg
start_to_say os (ServiceOffer place) = lists_dialed (drop place os)
start_to_say os (Created place) = opens_listed (drop place os)
start_to_say os (Opened place) = fills_opened (drop place os)
start_to_say os (Listed place k) = fills_listed k (drop place os)
start_to_say os (SubOffer place) = flat_map guest_opens (from_first_sub os place (drop place os))
start_to_say os awaits = []

abbrev pub start_to_hear : List Opening → GuestWait → List Msg
start_to_hear os (ServiceOffer place) = host_opens_all (drop place os)
start_to_hear os (Created place) = answers_list (drop place os)
start_to_hear os (Opened place) = answers_open (drop place os)
start_to_hear os (Listed place k) = answers_fill k (drop place os)
start_to_hear os (SubOffer place) = map offer_sub (first_subs (drop place os)) ++ host_opens_all (from_first_sub os place (drop place os))
start_to_hear os awaits = []

-- behind its openings the channels are moved: the guest says all of that at once, and hears the answers one by one
abbrev pub moves_to_say : BusPlan → List Opening → GuestWait → List Msg
moves_to_say plan os Nothing = []
moves_to_say plan os (Modified place) = []
moves_to_say plan os awaits = guest_moves plan os

abbrev pub moves_to_hear : BusPlan → List Opening → GuestWait → List Msg
moves_to_hear plan os Nothing = []
moves_to_hear plan os (Modified place) = drop place (host_moves plan os)
moves_to_hear plan os awaits = host_moves plan os

-- of a phase's end, whose openings stand in closing order: a channel that was closed is given back where it is a sub-channel; one is taken back, and given back
abbrev pub gives_sub : List Opening → List Msg
gives_sub [] = []
gives_sub (o ∷ os) = only_sub o (release o.relid) ++ flat_map guest_closes os

abbrev pub gives_one : List Opening → List Msg
gives_one [] = []
gives_one (o ∷ os) = release o.relid ∷ flat_map guest_closes os

abbrev pub takes_one : List Opening → List Msg
takes_one [] = []
takes_one (o ∷ os) = rescind o.relid ∷ flat_map host_closes os

-- and a network's is closed once the page lists of its buffers are torn down: that of the receive buffer follows that of the send buffer
abbrev pub closes_rings : Opening → List Msg
closes_rings o = close o.relid ∷ teardown o ∷ only_sub o (release o.relid)

abbrev pub empties_behind : Opening → Buffer → List Msg
empties_behind o Send = teardown_buffer o Receive ∷ closes_rings o
empties_behind o Receive = closes_rings o

abbrev pub empties_left : Buffer → List Opening → List Msg
empties_left k [] = []
empties_left k (o ∷ os) = empties_behind o k ++ flat_map guest_closes os

abbrev pub torn_rings : Opening → List Msg
torn_rings o = torndown o.gpadl ∷ only_sub o (rescind o.relid)

abbrev pub emptied_behind : Opening → Buffer → List Msg
emptied_behind o Send = torndown (buffer_list o Send) ∷ torndown (buffer_list o Receive) ∷ torn_rings o
emptied_behind o Receive = torndown (buffer_list o Receive) ∷ torn_rings o

abbrev pub emptied_left : Buffer → List Opening → List Msg
emptied_left k [] = []
emptied_left k (o ∷ os) = emptied_behind o k ++ flat_map host_closes os

abbrev pub torn_left : List Opening → List Msg
torn_left [] = []
torn_left (o ∷ os) = torn_rings o ++ flat_map host_closes os

abbrev pub end_to_say : List Opening → GuestWait → List Msg
end_to_say os (Unlisted place k) = empties_left k (drop place os)
end_to_say os (Torn place) = gives_sub (drop place os)
end_to_say os (Rescinded place) = gives_one (drop place os)
end_to_say os awaits = []

abbrev pub end_to_hear : List Opening → GuestWait → List Msg
end_to_hear os (Unlisted place k) = emptied_left k (drop place os)
end_to_hear os (Torn place) = torn_left (drop place os)
end_to_hear os (Rescinded place) = takes_one (drop place os)
end_to_hear os awaits = []

-- of the farewell
abbrev pub unload_to_hear : GuestWait → List Msg
unload_to_hear Unloaded = farewell_taken ∷ []
unload_to_hear awaits = []

-- all that a guest has still to say
abbrev pub to_say : BusPlan → Option Part → GuestWait → List Msg
to_say plan None awaits = said_by_guest plan
to_say plan (Some Contact) awaits = contact_to_say plan awaits ++ guest_from plan 0
to_say plan (Some (PhaseStart phase)) awaits = start_to_say (phase_of plan phase) awaits ++ (moves_to_say plan (phase_of plan phase) awaits ++ (flat_map guest_closes (closing_of plan phase) ++ guest_from plan (suc phase)))
to_say plan (Some (PhaseEnd phase)) awaits = end_to_say (closing_of plan phase) awaits ++ guest_from plan (suc phase)
to_say plan (Some Unload) awaits = []

-- and all that it has still to hear, where it has so many channels
abbrev pub to_hear : BusPlan → Option Part → GuestWait → ℕ → List Msg
to_hear plan None awaits channels = said_by_host plan
to_hear plan (Some Contact) awaits channels = contact_to_hear plan awaits channels ++ host_from plan 0
to_hear plan (Some (PhaseStart phase)) awaits channels = start_to_hear (phase_of plan phase) awaits ++ (moves_to_hear plan (phase_of plan phase) awaits ++ (flat_map host_closes (closing_of plan phase) ++ host_from plan (suc phase)))
to_hear plan (Some (PhaseEnd phase)) awaits channels = end_to_hear (closing_of plan phase) awaits ++ host_from plan (suc phase)
to_hear plan (Some Unload) awaits channels = unload_to_hear awaits

-- the version and the channels of a guest, a row for each part and what it waits for
pub data GuestStands (plan : BusPlan) : Option Part → GuestWait → Option Version → List Channel → Type 0 where
  -- no part has begun
  fresh : GuestStands plan None Nothing None []
  -- a version is proposed; the offers come; all came
  proposes : (v : Version) → Tries plan v → GuestStands plan (Some Contact) (Response v) None []
  asks : (v : Version) (n : ℕ) → Agreed plan v → n ≤ length plan.kinds → GuestStands plan (Some Contact) Offers (Some v) (replicate n offered_channel)
  contacted : (v : Version) (channels : List Channel) → Meet plan v channels (offered_before plan 0) (guest_before (vps_before plan 0) plan 0) → GuestStands plan (Some Contact) Nothing (Some v) channels
  -- a device's first channel is open, and some of its sub-channels were offered; a service was asked for; a channel's page list was sent; the channel is to be opened; all channels of the phase are
  -- open, and some of those that it moves are still to be answered; all are
  offers : (v : Version) (channels : List Channel) (phase place : ℕ) (done : List Opening) (first : Opening) (offered : List Opening) (o : Opening) (left : List Opening)
      → At plan phase place (done ++ first ∷ offered) o left → is_sub first ≡ false → AllByRecursion (λ p. is_sub p ≡ true) (offered ++ o ∷ [])
      → Meet plan v channels (offered_by plan phase (done ++ first ∷ []) [] + length offered) (marked (guest_is (vps_before plan phase) IsOpened) (done ++ first ∷ []) (guest_before (vps_before plan phase) plan phase))
      → GuestStands plan (Some (PhaseStart phase)) (SubOffer place) (Some v) channels
  dials : (v : Version) (channels : List Channel) (phase place : ℕ) (done : List Opening) (o : Opening) (left : List Opening) → At plan phase place done o left → is_some o.dialed ≡ true
      → Meet plan v channels (offered_by plan phase done (o ∷ left)) (marked (guest_is (vps_before plan phase) IsOpened) done (guest_before (vps_before plan phase) plan phase)) → GuestStands plan (Some (PhaseStart phase)) (ServiceOffer place) (Some v) channels
  lists : (v : Version) (channels : List Channel) (phase place : ℕ) (done : List Opening) (o : Opening) (left : List Opening) → At plan phase place done o left
      → Meet plan v channels (offered_for plan phase done o left) (marked (guest_is (vps_before plan phase) IsOpened) done (guest_before (vps_before plan phase) plan phase)) → GuestStands plan (Some (PhaseStart phase)) (Created place) (Some v) channels
  opens : (v : Version) (channels : List Channel) (phase place : ℕ) (done : List Opening) (o : Opening) (left : List Opening) → At plan phase place done o left
      → Meet plan v channels (offered_for plan phase done o left) (marked (guest_is (vps_before plan phase) IsOpened) done (marked (guest_is (vps_before plan phase) IsOpening) (o ∷ []) (guest_before (vps_before plan phase) plan phase))) → GuestStands plan (Some (PhaseStart phase)) (Opened place) (Some v) channels
  -- the page list of a buffer of an open channel was sent
  fills : (v : Version) (channels : List Channel) (phase place : ℕ) (done : List Opening) (o : Opening) (left : List Opening) (k : Buffer) → At plan phase place done o left → o.buffers ≡ true
      → Meet plan v channels (offered_for plan phase done o left) (marked (guest_is (vps_before plan phase) IsOpened) (done ++ o ∷ []) (guest_before (vps_before plan phase) plan phase)) → GuestStands plan (Some (PhaseStart phase)) (Listed place k) (Some v) channels
  moves : (v : Version) (channels : List Channel) (phase place : ℕ) (done : List Opening) (o : Opening) (left : List Opening) → phase < length plan.phases → moved plan (phase_of plan phase) ≡ done ++ o ∷ left → place ≡ length done → answers_modify v.0 ≡ true
      → Meet plan v channels (offered_before plan (suc phase)) (marked (guest_is (vps_before plan (suc phase)) IsModifying) (o ∷ left) (marked (guest_is (vps_before plan (suc phase)) IsOpened) (phase_of plan phase) (guest_before (vps_before plan (suc phase)) plan phase)))
      → GuestStands plan (Some (PhaseStart phase)) (Modified place) (Some v) channels
  started : (v : Version) (channels : List Channel) (phase : ℕ) → phase < length plan.phases
      → Meet plan v channels (offered_before plan (suc phase)) (marked (guest_is (vps_before plan (suc phase)) IsOpened) (phase_of plan phase) (guest_before (vps_before plan (suc phase)) plan phase)) → GuestStands plan (Some (PhaseStart phase)) Nothing (Some v) channels
  -- the page list of a buffer is being torn down
  empties : (v : Version) (channels : List Channel) (phase place : ℕ) (done : List Opening) (o : Opening) (left : List Opening) (k : Buffer) → EndsAt plan phase place done o left → o.rescinded ≡ false → o.buffers ≡ true
      → Meet plan v channels (offered_before plan (suc phase)) (marked (guest_ends (vps_before plan (suc phase))) done (marked (guest_is (vps_before plan (suc phase)) IsOpened) (o ∷ left) (guest_before (vps_before plan (suc phase)) plan phase))) → GuestStands plan (Some (PhaseEnd phase)) (Unlisted place k) (Some v) channels
  -- a channel is being closed; one is to be rescinded; a sub-channel is closed, and to be rescinded; all channels of the phase are done with
  closes : (v : Version) (channels : List Channel) (phase place : ℕ) (done : List Opening) (o : Opening) (left : List Opening) → EndsAt plan phase place done o left → o.rescinded ≡ false
      → Meet plan v channels (offered_before plan (suc phase)) (marked (guest_ends (vps_before plan (suc phase))) done (marked (guest_is (vps_before plan (suc phase)) Closing) (o ∷ []) (marked (guest_is (vps_before plan (suc phase)) IsOpened) left (guest_before (vps_before plan (suc phase)) plan phase)))) → GuestStands plan (Some (PhaseEnd phase)) (Torn place) (Some v) channels
  gives_back : (v : Version) (channels : List Channel) (phase place : ℕ) (done : List Opening) (o : Opening) (left : List Opening) → EndsAt plan phase place done o left → o.rescinded ≡ true
      → Meet plan v channels (offered_before plan (suc phase)) (marked (guest_ends (vps_before plan (suc phase))) done (marked (guest_is (vps_before plan (suc phase)) IsOpened) (o ∷ left) (guest_before (vps_before plan (suc phase)) plan phase))) → GuestStands plan (Some (PhaseEnd phase)) (Rescinded place) (Some v) channels
  gives_sub_back : (v : Version) (channels : List Channel) (phase place : ℕ) (done : List Opening) (o : Opening) (left : List Opening) → EndsAt plan phase place done o left → o.rescinded ≡ false → is_sub o ≡ true
      → Meet plan v channels (offered_before plan (suc phase)) (marked (guest_ends (vps_before plan (suc phase))) done (marked (guest_is (vps_before plan (suc phase)) IsClosed) (o ∷ []) (marked (guest_is (vps_before plan (suc phase)) IsOpened) left (guest_before (vps_before plan (suc phase)) plan phase)))) → GuestStands plan (Some (PhaseEnd phase)) (Rescinded place) (Some v) channels
  ended : (v : Version) (channels : List Channel) (phase : ℕ) → phase < length plan.phases → Meet plan v channels (offered_before plan (suc phase)) (guest_before (vps_before plan (suc phase)) plan (suc phase)) → GuestStands plan (Some (PhaseEnd phase)) Nothing (Some v) channels
  -- the farewell is said; it is over
  leaves : (v : Version) (channels : List Channel) → Meet plan v channels (offered_before plan (length plan.phases)) (guest_before (vps_before plan (length plan.phases)) plan (length plan.phases)) → GuestStands plan (Some Unload) Unloaded (Some v) channels
  is_over : (v : Version) (channels : List Channel) → Meet plan v channels (offered_before plan (length plan.phases)) (guest_before (vps_before plan (length plan.phases)) plan (length plan.phases)) → GuestStands plan (Some Unload) Nothing (Some v) channels

-- a guest stands so, said the front of all that it says, and heard the front of all that its host says; where it stands tells what is left of both
pub record GuestAt (plan : BusPlan) (g : GuestSeen) : Type 0 where
  pub plan_is : g.plan ≡ plan
  pub stands : GuestStands plan g.part g.awaits g.version g.channels
  pub said : said_by_guest plan ≡ g.posted ++ to_say plan g.part g.awaits
  pub heard : said_by_host plan ≡ g.fed ++ to_hear plan g.part g.awaits (length g.channels)
