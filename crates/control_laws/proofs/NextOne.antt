-- How both sides go on at the end of a phase with the openings that are left of it: the first of them is closed, or rescinded.
use Rattle.std.proofs.Common.{ℕ, Bool, true, false, List, [], ◌∷◌, ◌++◌}
use Rattle.control_laws.proofs.Words.{Opened, Closing, IsRescinded, ChanState, Msg, Opening, Send, Channel, GuestWait, Unlisted, Torn, Rescinded, HostWait, HostNothing, AwaitsClose, AwaitsRelease}
use Rattle.control_model.specs.declared.guest_wait.GuestWait.TheVariants.{Nothing}
use Rattle.control_model.specs.declared.host_wait.HostWait.TheVariants.{Empty}
use Rattle.control_model.specs.Messages.{close, teardown, teardown_buffer, rescind}
use Rattle.control_model.specs.Stand.{marked, guest_is, host_is}

-- the guest closes the first one, or tears the page lists of its buffers down before, where it has some; or it waits for it to be rescinded
abbrev pub guest_waits : ℕ → Bool → Bool → GuestWait
guest_waits place true buffers = Rescinded place
guest_waits place false true = Unlisted place Send
guest_waits place false false = Torn place

abbrev pub guest_next_awaits : ℕ → List Opening → GuestWait
guest_next_awaits place [] = Nothing
guest_next_awaits place (o ∷ left) = guest_waits place o.rescinded o.buffers

abbrev pub guest_marks : (ℕ → ℕ) → Opening → List Opening → (ℕ → Channel) → Bool → Bool → ℕ → Channel
guest_marks vps o left before true buffers = marked (guest_is vps Opened) (o ∷ left) before
guest_marks vps o left before false true = marked (guest_is vps Opened) (o ∷ left) before
guest_marks vps o left before false false = marked (guest_is vps Closing) (o ∷ []) (marked (guest_is vps Opened) left before)

abbrev pub guest_next_stands : (ℕ → ℕ) → List Opening → (ℕ → Channel) → ℕ → Channel
guest_next_stands vps [] before = before
guest_next_stands vps (o ∷ left) before = guest_marks vps o left before o.rescinded o.buffers

abbrev pub guest_sends : Opening → Bool → Bool → List Msg
guest_sends o true buffers = []
guest_sends o false true = teardown_buffer o Send ∷ []
guest_sends o false false = close o.relid ∷ teardown o ∷ []

abbrev pub guest_next_sends : List Opening → List Msg
guest_next_sends [] = []
guest_next_sends (o ∷ left) = guest_sends o o.rescinded o.buffers

-- the host waits for it to be closed, or for the page lists of its buffers to be torn down before; or it rescinds it: all its page lists end
abbrev pub host_waits : ℕ → Bool → Bool → HostWait
host_waits place true buffers = AwaitsRelease place
host_waits place false true = Empty place Send
host_waits place false false = AwaitsClose place

abbrev pub host_next_awaits : ℕ → List Opening → HostWait
host_next_awaits place [] = HostNothing
host_next_awaits place (o ∷ left) = host_waits place o.rescinded o.buffers

abbrev pub host_marks : (ℕ → ℕ) → Opening → List Opening → (ℕ → ChanState) → Bool → ℕ → ChanState
host_marks vps o left before true = marked (host_is vps IsRescinded) (o ∷ []) (marked (host_is vps Opened) left before)
host_marks vps o left before false = marked (host_is vps Opened) (o ∷ left) before

abbrev pub host_next_stands : (ℕ → ℕ) → List Opening → (ℕ → ChanState) → ℕ → ChanState
host_next_stands vps [] before = before
host_next_stands vps (o ∷ left) before = host_marks vps o left before o.rescinded

abbrev pub host_done : List Opening → Opening → Bool → List Opening
host_done done o true = done ++ o ∷ []
host_done done o false = done

abbrev pub host_next_done : List Opening → List Opening → List Opening
host_next_done done [] = done
host_next_done done (o ∷ left) = host_done done o o.rescinded

abbrev pub host_sends : Opening → Bool → List Msg
host_sends o true = rescind o.relid ∷ []
host_sends o false = []

abbrev pub host_next_sends : List Opening → List Msg
host_next_sends [] = []
host_next_sends (o ∷ left) = host_sends o o.rescinded
