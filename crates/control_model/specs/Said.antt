-- All that a guest and its host say to each other over a plan, in order, and where its channels stand then.
use Rattle.std.specs.Prelude.{ℕ, ◌+◌, ◌==◌, ◌&&◌, ◌||◌, Bool, min, nat_le, List, [], ◌∷◌, ◌++◌, length, map, Option, Some, None, if◌then◌else◌}
use Rattle.std.specs.List.{flat_map, list_any, range_with_len}
use Rattle.contact.specs.Versions.{version, versions_tried, has_modify, answers_modify}
use Rattle.contact.specs.Classes.{offers_from}
use Rattle.chan_state.specs.declared.state.State.{State}
use Rattle.chan_state.specs.declared.state.State.TheVariants.{Offered, Closed, Released}
use Rattle.gpadl.specs.Cut.{cut}
use Rattle.vmbus_msg.specs.declared.msg.Msg.{Msg}
use Rattle.control_model.specs.declared.opening.Opening.{Opening}
use Rattle.control_model.specs.declared.buffer.Buffer.{Buffer}
use Rattle.control_model.specs.declared.buffer.Buffer.TheVariants.{Receive, Send}
use Rattle.control_model.specs.Plan.{BusPlan, buffer_list, is_sub, subs_next, laters, in_closing_order, all_openings, movers, vp_for}
use Rattle.control_model.specs.Messages.{propose, respond, request, delivered, connect, offer_service, pages_from, buffer_pages, created, open_on, opened, offer_sub, modify, modified, close, teardown, teardown_buffer, torndown, rescind, release, farewell, farewell_taken}

-- the version that both agree on
abbrev pub agreed : BusPlan → ℕ
agreed plan = min plan.guest.0 plan.host.0

-- the guest proposes each version from its highest down to the agreed one, and asks for the offers
abbrev pub guest_contacts : BusPlan → List Msg
guest_contacts plan = map propose (versions_tried plan.guest.0 plan.host.0) ++ request ∷ []

-- the host answers each by 1 where it has the version and by 0 otherwise, and offers each device
abbrev pub answer_to : BusPlan → ℕ → Msg
answer_to plan v = respond (if nat_le v plan.host.0 then 1 else 0)

abbrev pub host_contacts : BusPlan → List Msg
host_contacts plan = map (answer_to plan) (versions_tried plan.guest.0 plan.host.0) ++ (offers_from 1 plan.kinds ++ delivered ∷ [])

-- the channel of a service is asked for first, and offered then
abbrev pub dials : Option ℕ → List Msg
dials None = []
dials (Some port) = connect port ∷ []

abbrev pub dial_offers : ℕ → Option ℕ → List Msg
dial_offers relid None = []
dial_offers relid (Some port) = offer_service port relid ∷ []

-- once a network's channel is open, the guest sends the page lists of its buffers, the receive buffer's first, and the host knows them then, one after the other
abbrev pub guest_buffer : Opening → Buffer → List Msg
guest_buffer o k = cut o.relid (buffer_list o k) (buffer_pages o k)

abbrev pub host_buffer : Opening → Buffer → Msg
host_buffer o k = created o.relid (buffer_list o k)

abbrev pub guest_buffers : Opening → List Msg
guest_buffers o = if o.buffers then guest_buffer o Receive ++ guest_buffer o Send else []

abbrev pub host_buffers : Opening → List Msg
host_buffers o = if o.buffers then host_buffer o Receive ∷ host_buffer o Send ∷ [] else []

-- before it is closed they are torn down, the send buffer's first
abbrev pub guest_empties : Opening → List Msg
guest_empties o = if o.buffers then teardown_buffer o Send ∷ teardown_buffer o Receive ∷ [] else []

abbrev pub host_empties : Opening → List Msg
host_empties o = if o.buffers then torndown (buffer_list o Send) ∷ torndown (buffer_list o Receive) ∷ [] else []

-- a channel is opened: the guest sends its page list, which the host knows then, and opens it on that list, which the host answers; then come its buffers
abbrev pub guest_lists : Opening → List Msg
guest_lists o = cut o.relid o.gpadl (pages_from o) ++ (open_on o ∷ guest_buffers o)

abbrev pub guest_opens : Opening → List Msg
guest_opens o = dials o.dialed ++ guest_lists o

abbrev pub host_opens : Opening → List Msg
host_opens o = dial_offers o.relid o.dialed ++ (created o.relid o.gpadl ∷ opened o.relid o.relid ∷ host_buffers o)

-- once a device's first channel is open, the host offers its sub-channels together; each channel is opened in its turn
abbrev pub host_opens_all : List Opening → List Msg
host_opens_all [] = []
host_opens_all (o ∷ os) = host_opens o ++ (map offer_sub (subs_next (o ∷ os)) ++ host_opens_all os)

-- once all channels of a phase are open, the guest moves those to other processors that the phase moves, from 4.1 on, and from 5.3 on the host answers each
abbrev pub moved : BusPlan → List Opening → List Opening
moved plan os = if has_modify (agreed plan) then movers os else []

abbrev pub guest_moves : BusPlan → List Opening → List Msg
guest_moves plan os = map (λ o. modify o.relid (vp_for o)) (moved plan os)

abbrev pub host_moves : BusPlan → List Opening → List Msg
host_moves plan os = if answers_modify (agreed plan) then map (λ o. modified o.relid) (moved plan os) else []

-- only for a sub-channel
abbrev pub only_sub : Opening → Msg → List Msg
only_sub o m = if is_sub o then m ∷ [] else []

-- a channel that is rescinded is taken back by the host, and the guest gives it back; each other one is closed: the guest tears the page lists of its buffers
-- down, closes it and tears its own page list down, which the host lets go; a sub-channel is taken back and given back then
abbrev pub guest_closes : Opening → List Msg
guest_closes o = if o.rescinded then release o.relid ∷ [] else guest_empties o ++ (close o.relid ∷ teardown o ∷ only_sub o (release o.relid))

abbrev pub host_closes : Opening → List Msg
host_closes o = if o.rescinded then rescind o.relid ∷ [] else host_empties o ++ (torndown o.gpadl ∷ only_sub o (rescind o.relid))

-- a phase opens its channels at its start and moves them, and closes them or gives them back at its end, all in order of offer of their devices: a device's first
-- channel is opened before its sub-channels, and closed behind them
abbrev pub guest_in_phase : BusPlan → List Opening → List Msg
guest_in_phase plan os = flat_map guest_opens os ++ (guest_moves plan os ++ flat_map guest_closes (in_closing_order os))

abbrev pub host_in_phase : BusPlan → List Opening → List Msg
host_in_phase plan os = host_opens_all os ++ (host_moves plan os ++ flat_map host_closes (in_closing_order os))

-- the farewell is said from version 3.0 on
abbrev pub from_3_0 : BusPlan → List Msg → List Msg
from_3_0 plan said = if nat_le (version 3 0) (agreed plan) then said else []

-- all that each side says: the contact, each phase, and the farewell
abbrev pub said_by_guest : BusPlan → List Msg
said_by_guest plan = guest_contacts plan ++ (flat_map (guest_in_phase plan) plan.phases ++ from_3_0 plan (farewell ∷ []))

abbrev pub said_by_host : BusPlan → List Msg
said_by_host plan = host_contacts plan ++ (flat_map (host_in_phase plan) plan.phases ++ from_3_0 plan (farewell_taken ∷ []))

-- a phase opened a channel; it is given back at the end of a phase: a channel that the phase rescinds, and each sub-channel
abbrev pub is_opened : BusPlan → ℕ → Bool
is_opened plan relid = list_any (λ o. o.relid == relid) (all_openings plan.phases)

abbrev pub ends_given_back : Opening → Bool
ends_given_back o = o.rescinded || is_sub o

abbrev pub is_given_back : BusPlan → ℕ → Bool
is_given_back plan relid = list_any (λ o. (o.relid == relid) && ends_given_back o) (all_openings plan.phases)

-- at the end a channel that a phase rescinded and each sub-channel is given back, each other one that a phase opened is closed, and each that none opened is offered
abbrev pub last_state : BusPlan → ℕ → State
last_state plan relid = if is_given_back plan relid then Released else if is_opened plan relid then Closed else Offered

-- how many channels are offered in all: one for each device, and those of the phases that are offered later
abbrev pub channel_count : BusPlan → ℕ
channel_count plan = length plan.kinds + length (laters (all_openings plan.phases))

-- where all channels stand at the end, in order of relid
abbrev pub at_end : BusPlan → List State
at_end plan = map (last_state plan) (range_with_len 1 (channel_count plan))
