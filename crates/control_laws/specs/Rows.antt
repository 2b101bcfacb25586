-- What both sides say over small plans.
use Rattle.std.specs.Prelude.{◌≡◌, ℕ, ◌+◌, ◌*◌, Bool, true, false, not, List, [], ◌∷◌, ◌++◌, Option, Some, None}
use Rattle.std.specs.List.{range_with_len}
use Rattle.contact.specs.Versions.{version}
use Rattle.contact.specs.Classes.{offer}
use Rattle.contact.specs.declared.kind.Kind.TheVariants.{Beat, Disk, Net}
use Rattle.chan_state.specs.declared.state.State.TheVariants.{Offered, Closed, Released}
use Rattle.vmbus_msg.specs.declared.msg.Msg.{Msg}
use Rattle.gpadl.specs.Cut.{header, cut}
use Rattle.control_model.specs.declared.opening.Opening.{Opening}
use Rattle.control_model.specs.declared.buffer.Buffer.TheVariants.{Receive, Send}
use Rattle.control_model.specs.Plan.{BusPlan, first_gpadl}
use Rattle.control_model.specs.Messages.{propose, respond, request, delivered, connect, offer_service, created, open_on, opened, modify, modified, close, teardown, teardown_buffer, torndown, rescind, release, farewell, farewell_taken}
use Rattle.control_model.specs.Sock.{dialed_at, sock_plan}
use Rattle.control_model.specs.Said.{said_by_guest, said_by_host, at_end}
use Rattle.control_laws.specs.Over.{vps_at_end}

-- a disk and a heartbeat are offered; one phase opens the disk, with rings of one data page
abbrev pub disk_of : Opening
disk_of = record { relid = 1; sub = 0; ring_pages = 1; gpadl = first_gpadl; first_page = 0; rescinded = false; vp = None; dialed = None; buffers = false }

abbrev pub small_plan : ℕ → ℕ → BusPlan
small_plan guest host = record { guest = record { 0 = guest }; host = record { 0 = host }; kinds = Disk ∷ Beat ∷ []; phases = (disk_of ∷ []) ∷ [] }

-- a guest with 5.0 and a host with 4.0
abbrev pub GuestSays : Type 0
GuestSays = said_by_guest (small_plan (version 5 0) (version 4 0))
    ≡ propose (version 5 0) ∷ propose (version 4 1) ∷ propose (version 4 0) ∷ request ∷ header 1 first_gpadl 0 (1 ∷ 2 ∷ 3 ∷ []) ∷ open_on disk_of ∷ close 1 ∷ teardown disk_of ∷ farewell ∷ []

abbrev pub HostSays : Type 0
HostSays = said_by_host (small_plan (version 5 0) (version 4 0))
    ≡ respond 0 ∷ respond 0 ∷ respond 1 ∷ offer Disk 1 0 ∷ offer Beat 2 0 ∷ delivered ∷ created 1 first_gpadl ∷ opened 1 1 ∷ torndown first_gpadl ∷ farewell_taken ∷ []

-- a guest with 2.4 says no farewell
abbrev pub GuestSaysNone : Type 0
GuestSaysNone = said_by_guest (small_plan (version 2 4) (version 5 2)) ≡ propose (version 2 4) ∷ request ∷ header 1 first_gpadl 0 (1 ∷ 2 ∷ 3 ∷ []) ∷ open_on disk_of ∷ close 1 ∷ teardown disk_of ∷ []

abbrev pub HostSaysNone : Type 0
HostSaysNone = said_by_host (small_plan (version 2 4) (version 5 2)) ≡ respond 1 ∷ offer Disk 1 0 ∷ offer Beat 2 0 ∷ delivered ∷ created 1 first_gpadl ∷ opened 1 1 ∷ torndown first_gpadl ∷ []

-- two disks, of which the host rescinds the first one, or the second one, at the end of the phase; the other one is closed
abbrev pub first_of : Bool → Opening
first_of rescinded = record { relid = 1; sub = 0; ring_pages = 1; gpadl = first_gpadl; first_page = 0; rescinded = rescinded; vp = None; dialed = None; buffers = false }

abbrev pub second_of : Bool → Opening
second_of rescinded = record { relid = 2; sub = 0; ring_pages = 1; gpadl = first_gpadl + 1; first_page = 4; rescinded = rescinded; vp = None; dialed = None; buffers = false }

abbrev pub mixed_plan : Bool → BusPlan
mixed_plan first = record { guest = record { 0 = version 5 2 }; host = record { 0 = version 5 2 }; kinds = Disk ∷ Disk ∷ []; phases = (first_of first ∷ second_of (not first) ∷ []) ∷ [] }

abbrev pub GuestGivesFirst : Type 0
GuestGivesFirst = said_by_guest (mixed_plan true)
    ≡ propose (version 5 2) ∷ request ∷ header 1 first_gpadl 0 (1 ∷ 2 ∷ 3 ∷ []) ∷ open_on (first_of true) ∷ header 2 (first_gpadl + 1) 4 (5 ∷ 6 ∷ 7 ∷ []) ∷ open_on (second_of false)
    ∷ release 1 ∷ close 2 ∷ teardown (second_of false) ∷ farewell ∷ []

abbrev pub HostTakesFirst : Type 0
HostTakesFirst = said_by_host (mixed_plan true)
    ≡ respond 1 ∷ offer Disk 1 0 ∷ offer Disk 2 0 ∷ delivered ∷ created 1 first_gpadl ∷ opened 1 1 ∷ created 2 (first_gpadl + 1) ∷ opened 2 2 ∷ rescind 1 ∷ torndown (first_gpadl + 1) ∷ farewell_taken ∷ []

abbrev pub GuestGivesSecond : Type 0
GuestGivesSecond = said_by_guest (mixed_plan false)
    ≡ propose (version 5 2) ∷ request ∷ header 1 first_gpadl 0 (1 ∷ 2 ∷ 3 ∷ []) ∷ open_on (first_of false) ∷ header 2 (first_gpadl + 1) 4 (5 ∷ 6 ∷ 7 ∷ []) ∷ open_on (second_of true)
    ∷ close 1 ∷ teardown (first_of false) ∷ release 2 ∷ farewell ∷ []

abbrev pub HostTakesSecond : Type 0
HostTakesSecond = said_by_host (mixed_plan false)
    ≡ respond 1 ∷ offer Disk 1 0 ∷ offer Disk 2 0 ∷ delivered ∷ created 1 first_gpadl ∷ opened 1 1 ∷ created 2 (first_gpadl + 1) ∷ opened 2 2 ∷ torndown first_gpadl ∷ rescind 2 ∷ farewell_taken ∷ []

-- a disk with two sub-channels and a heartbeat are offered; a phase opens the disk, which is closed at its end, or rescinded
abbrev pub seat_of : Bool → ℕ → ℕ → ℕ → Opening
seat_of rescinded relid sub turn = record { relid = relid; sub = sub; ring_pages = 1; gpadl = first_gpadl + turn; first_page = 4 * turn; rescinded = rescinded; vp = None; dialed = None; buffers = false }

abbrev pub subs_plan : Bool → BusPlan
subs_plan rescinded = record {
  guest = record { 0 = version 5 2 };
  host = record { 0 = version 5 2 };
  kinds = Disk ∷ Beat ∷ [];
  phases = (seat_of rescinded 1 0 0 ∷ seat_of rescinded 3 1 1 ∷ seat_of rescinded 4 2 2 ∷ []) ∷ [];
}

abbrev pub guest_starts_subs : Bool → List Msg
guest_starts_subs rescinded =
    header 1 first_gpadl 0 (1 ∷ 2 ∷ 3 ∷ []) ∷ open_on (seat_of rescinded 1 0 0) ∷ header 3 (first_gpadl + 1) 4 (5 ∷ 6 ∷ 7 ∷ []) ∷ open_on (seat_of rescinded 3 1 1)
    ∷ header 4 (first_gpadl + 2) 8 (9 ∷ 10 ∷ 11 ∷ []) ∷ open_on (seat_of rescinded 4 2 2) ∷ []

abbrev pub host_starts_subs : List Msg
host_starts_subs =
    respond 1 ∷ offer Disk 1 0 ∷ offer Beat 2 0 ∷ delivered ∷ created 1 first_gpadl ∷ opened 1 1 ∷ offer Disk 3 1 ∷ offer Disk 4 2
    ∷ created 3 (first_gpadl + 1) ∷ opened 3 3 ∷ created 4 (first_gpadl + 2) ∷ opened 4 4 ∷ []

abbrev pub GuestClosesSubs : Type 0
GuestClosesSubs = said_by_guest (subs_plan false)
    ≡ propose (version 5 2) ∷ request ∷ (guest_starts_subs false ++ (close 3 ∷ teardown (seat_of false 3 1 1) ∷ release 3 ∷ close 4 ∷ teardown (seat_of false 4 2 2) ∷ release 4 ∷ close 1 ∷ teardown (seat_of false 1 0 0) ∷ farewell ∷ []))

abbrev pub HostClosesSubs : Type 0
HostClosesSubs = said_by_host (subs_plan false) ≡ host_starts_subs ++ (torndown (first_gpadl + 1) ∷ rescind 3 ∷ torndown (first_gpadl + 2) ∷ rescind 4 ∷ torndown first_gpadl ∷ farewell_taken ∷ [])

abbrev pub GuestGivesSubs : Type 0
GuestGivesSubs = said_by_guest (subs_plan true) ≡ propose (version 5 2) ∷ request ∷ (guest_starts_subs true ++ (release 3 ∷ release 4 ∷ release 1 ∷ farewell ∷ []))

abbrev pub HostTakesSubs : Type 0
HostTakesSubs = said_by_host (subs_plan true) ≡ host_starts_subs ++ (rescind 3 ∷ rescind 4 ∷ rescind 1 ∷ farewell_taken ∷ [])

-- each sub-channel is given back at the end, its first channel as it would be without it
abbrev pub SubStates : Type 0
SubStates = (at_end (subs_plan false) ≡ Closed ∷ Offered ∷ Released ∷ Released ∷ []) × (at_end (subs_plan true) ≡ Released ∷ Offered ∷ Released ∷ Released ∷ [])

-- a channel that is rescinded is given back at the end, one that is closed is closed, and one that no phase opens is offered
abbrev pub EndStates : Type 0
EndStates = (at_end (mixed_plan true) ≡ Released ∷ Closed ∷ []) × (at_end (mixed_plan false) ≡ Closed ∷ Released ∷ []) × (at_end (small_plan (version 5 0) (version 4 0)) ≡ Closed ∷ Offered ∷ [])

-- a disk and a heartbeat, both opened in a phase that moves the one to processor 5 and the other to processor 3
abbrev pub moved_of : ℕ → ℕ → Option ℕ → Opening
moved_of relid place vp = record { relid = relid; sub = 0; ring_pages = 1; gpadl = first_gpadl + place; first_page = 4 * place; rescinded = false; vp = vp; dialed = None; buffers = false }

abbrev pub moving_plan : ℕ → ℕ → BusPlan
moving_plan guest host = record { guest = record { 0 = guest }; host = record { 0 = host }; kinds = Disk ∷ Beat ∷ []; phases = (moved_of 1 0 (Some 5) ∷ moved_of 2 1 (Some 3) ∷ []) ∷ [] }

abbrev pub guest_starts_both : List Msg
guest_starts_both = header 1 first_gpadl 0 (1 ∷ 2 ∷ 3 ∷ []) ∷ open_on (moved_of 1 0 (Some 5)) ∷ header 2 (first_gpadl + 1) 4 (5 ∷ 6 ∷ 7 ∷ []) ∷ open_on (moved_of 2 1 (Some 3)) ∷ []

abbrev pub guest_ends_both : List Msg
guest_ends_both = close 1 ∷ teardown (moved_of 1 0 (Some 5)) ∷ close 2 ∷ teardown (moved_of 2 1 (Some 3)) ∷ farewell ∷ []

abbrev pub host_starts_both : List Msg
host_starts_both = respond 1 ∷ offer Disk 1 0 ∷ offer Beat 2 0 ∷ delivered ∷ created 1 first_gpadl ∷ opened 1 1 ∷ created 2 (first_gpadl + 1) ∷ opened 2 2 ∷ []

abbrev pub host_ends_both : List Msg
host_ends_both = torndown first_gpadl ∷ torndown (first_gpadl + 1) ∷ farewell_taken ∷ []

-- the guest moves them from 4.1 on, once both are open
abbrev pub GuestMoves : Type 0
GuestMoves = (said_by_guest (moving_plan (version 5 3) (version 5 3)) ≡ propose (version 5 3) ∷ request ∷ (guest_starts_both ++ (modify 1 5 ∷ modify 2 3 ∷ guest_ends_both)))
    × (said_by_guest (moving_plan (version 4 1) (version 5 3)) ≡ propose (version 4 1) ∷ request ∷ (guest_starts_both ++ (modify 1 5 ∷ modify 2 3 ∷ guest_ends_both)))
    × (said_by_guest (moving_plan (version 4 0) (version 5 3)) ≡ propose (version 4 0) ∷ request ∷ (guest_starts_both ++ guest_ends_both))

-- and the host answers from 5.3 on
abbrev pub HostAnswers : Type 0
HostAnswers = (said_by_host (moving_plan (version 5 3) (version 5 3)) ≡ host_starts_both ++ (modified 1 ∷ modified 2 ∷ host_ends_both)) × (said_by_host (moving_plan (version 5 2) (version 5 3)) ≡ host_starts_both ++ host_ends_both)

-- a second phase moves the disk to processor 7: that one it has at the end, and the heartbeat the one from before; below 4.1 none is moved
abbrev pub twice_moving : ℕ → BusPlan
twice_moving guest = record { guest = record { 0 = guest }; host = record { 0 = version 5 3 }; kinds = Disk ∷ Beat ∷ []; phases = (moved_of 1 0 (Some 5) ∷ moved_of 2 1 (Some 3) ∷ []) ∷ (moved_of 1 2 (Some 7) ∷ moved_of 2 3 None ∷ []) ∷ [] }

abbrev pub EndVps : Type 0
EndVps = (vps_at_end (twice_moving (version 4 1)) ≡ 7 ∷ 3 ∷ []) × (vps_at_end (twice_moving (version 4 0)) ≡ 0 ∷ 0 ∷ [])

-- two networks, of which the host rescinds the second one at the end of the phase: each has the lists of its buffers behind its rings', and those of the first one are torn down before it is closed, the send buffer's first
abbrev pub net_of : Bool → ℕ → ℕ → Opening
net_of rescinded relid turn = record { relid = relid; sub = 0; ring_pages = 1; gpadl = first_gpadl + 3 * turn; first_page = 132 * turn; rescinded = rescinded; vp = None; dialed = None; buffers = true }

abbrev pub nets_plan : BusPlan
nets_plan = record { guest = record { 0 = version 5 2 }; host = record { 0 = version 5 2 }; kinds = Net ∷ Net ∷ []; phases = (net_of false 1 0 ∷ net_of true 2 1 ∷ []) ∷ [] }

abbrev pub GuestFills : Type 0
GuestFills = said_by_guest nets_plan
    ≡ propose (version 5 2) ∷ request ∷ header 1 first_gpadl 0 (1 ∷ 2 ∷ 3 ∷ []) ∷ open_on (net_of false 1 0) ∷ (cut 1 (first_gpadl + 1) (range_with_len 4 64) ++ (cut 1 (first_gpadl + 2) (range_with_len 68 64)
    ++ (header 2 (first_gpadl + 3) 132 (133 ∷ 134 ∷ 135 ∷ []) ∷ open_on (net_of true 2 1) ∷ (cut 2 (first_gpadl + 4) (range_with_len 136 64) ++ (cut 2 (first_gpadl + 5) (range_with_len 200 64)
    ++ (teardown_buffer (net_of false 1 0) Send ∷ teardown_buffer (net_of false 1 0) Receive ∷ close 1 ∷ teardown (net_of false 1 0) ∷ release 2 ∷ farewell ∷ []))))))

abbrev pub HostFills : Type 0
HostFills = said_by_host nets_plan
    ≡ respond 1 ∷ offer Net 1 0 ∷ offer Net 2 0 ∷ delivered ∷ created 1 first_gpadl ∷ opened 1 1 ∷ created 1 (first_gpadl + 1) ∷ created 1 (first_gpadl + 2)
    ∷ created 2 (first_gpadl + 3) ∷ opened 2 2 ∷ created 2 (first_gpadl + 4) ∷ created 2 (first_gpadl + 5)
    ∷ torndown (first_gpadl + 2) ∷ torndown (first_gpadl + 1) ∷ torndown first_gpadl ∷ rescind 2 ∷ farewell_taken ∷ []

-- a socket's: no device is offered, the guest asks for the service at the port, and the channel is rescinded
abbrev pub GuestDials : Type 0
GuestDials = (port : ℕ) → said_by_guest (sock_plan port)
    ≡ propose (version 5 2) ∷ request ∷ connect port ∷ (cut 1 first_gpadl (range_with_len 0 34) ++ (open_on (dialed_at port) ∷ release 1 ∷ farewell ∷ []))

abbrev pub HostOffersService : Type 0
HostOffersService = (port : ℕ) → said_by_host (sock_plan port)
    ≡ respond 1 ∷ delivered ∷ offer_service port 1 ∷ created 1 first_gpadl ∷ opened 1 1 ∷ rescind 1 ∷ farewell_taken ∷ []

abbrev pub SockState : Type 0
SockState = (port : ℕ) → at_end (sock_plan port) ≡ Released ∷ []
