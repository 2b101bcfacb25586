-- Where the channels of a side stand, and the versions that a guest tries.
use Rattle.std.specs.Prelude.{◌≡◌, ℕ, zero, suc, ◌+◌, ◌<◌, ◌≤◌, ◌==◌, ◌||◌, Bool, true, false, List, [], ◌∷◌, ◌++◌, length, take, Option, Some, None, if◌then◌else◌}
use Rattle.std.specs.List.{flat_map}
use Rattle.contact.specs.declared.version.Version.{Version}
use Rattle.contact.specs.Versions.{IsVersion}
use Rattle.io_edge.specs.declared.side.Side.TheVariants.{Guest as GuestSide, Host as HostSide}
use Rattle.chan_state.specs.declared.state.State.{State}
use Rattle.chan_state.specs.declared.state.State.TheVariants.{Offered, Closed, Released}
use Rattle.chan_state.specs.declared.chan_state.ChanState.{ChanState}
use Rattle.control_model.specs.declared.opening.Opening.{Opening}
use Rattle.control_model.specs.declared.buffer.Buffer.TheVariants.{Receive, Send}
use Rattle.control_model.specs.declared.channel.Channel.{Channel}
use Rattle.control_model.specs.Plan.{BusPlan, buffer_list, is_buffer, phase_of, closing_of, first_subs, laters, all_openings, vp_for}
use Rattle.control_model.specs.Channels.{by_relid}
use Rattle.control_model.specs.Guest.{offered_channel}
use Rattle.control_model.specs.Said.{ends_given_back, moved}

-- an opening's place in a phase: those before it, and those behind it
pub record At (plan : BusPlan) (phase place : ℕ) (done : List Opening) (o : Opening) (left : List Opening) : Type 0 where
  pub in_plan : phase < length plan.phases
  pub phase_is : phase_of plan phase ≡ done ++ o ∷ left
  pub place_is : place ≡ length done

-- the same in the order in which the channels of a phase are done with
pub record EndsAt (plan : BusPlan) (phase place : ℕ) (done : List Opening) (o : Opening) (left : List Opening) : Type 0 where
  pub in_plan : phase < length plan.phases
  pub closing_is : closing_of plan phase ≡ done ++ o ∷ left
  pub place_is : place ≡ length done

-- how many channels are offered before a phase: one for each device, and those of earlier phases that were offered later
abbrev pub offered_before : BusPlan → ℕ → ℕ
offered_before plan phase = length plan.kinds + length (laters (all_openings (take phase plan.phases)))

-- and while it starts, where these openings are done and these are left: those that were offered for them, and the sub-channels of the device whose first channel is open
abbrev pub offered_by : BusPlan → ℕ → List Opening → List Opening → ℕ
offered_by plan phase done left = offered_before plan phase + (length (laters done) + length (first_subs left))

-- once the channel of the next one was offered too, where the guest asks for its service
abbrev pub count_dialed : Option ℕ → ℕ
count_dialed None = 0
count_dialed (Some port) = 1

abbrev pub offered_for : BusPlan → ℕ → List Opening → Opening → List Opening → ℕ
offered_for plan phase done o left = offered_by plan phase done (o ∷ left) + count_dialed o.dialed

-- the channels of these openings stand so, and each other one as it did
abbrev pub marked : {X : Type 0} → (Opening → X) → List Opening → (ℕ → X) → ℕ → X
marked so [] before relid = before relid
marked so (o ∷ os) before relid = if o.relid == relid then so o else marked so os before relid

-- the processors of the channels' interrupts before a phase moves some: each that an earlier phase moved has the last one that it was moved to, and each other one 0
abbrev pub vps_before : BusPlan → ℕ → ℕ → ℕ
vps_before plan zero relid = 0
vps_before plan (suc phase) relid = marked vp_for (moved plan (phase_of plan phase)) (vps_before plan phase) relid

-- a channel of an opening, at the guest and at the host, where the channels have these processors
abbrev pub guest_is : (ℕ → ℕ) → State → Opening → Channel
guest_is vps state o = record { life = record { side = GuestSide; state = state; vp = vps o.relid }; gpadl = Some o.gpadl }

abbrev pub host_is : (ℕ → ℕ) → State → Opening → ChanState
host_is vps state o = record { side = HostSide; state = state; vp = vps o.relid }

-- at the end of a phase a channel of it is given back where it is rescinded or a sub-channel, and closed otherwise
abbrev pub end_state : Bool → State
end_state true = Released
end_state false = Closed

abbrev pub guest_ends : (ℕ → ℕ) → Opening → Channel
guest_ends vps o = guest_is vps (end_state (ends_given_back o)) o

abbrev pub host_ends : (ℕ → ℕ) → Opening → ChanState
host_ends vps o = host_is vps (end_state (ends_given_back o)) o

-- before a phase each channel that an earlier one opened stands as that one left it, and each other one is offered
abbrev pub before_phase : {X : Type 0} → BusPlan → (Opening → X) → X → ℕ → ℕ → X
before_phase plan ended offered zero relid = offered
before_phase plan ended offered (suc phase) relid = marked ended (phase_of plan phase) (before_phase plan ended offered phase) relid

abbrev pub guest_before : (ℕ → ℕ) → BusPlan → ℕ → ℕ → Channel
guest_before vps plan phase = before_phase plan (guest_ends vps) offered_channel phase

abbrev pub host_before : (ℕ → ℕ) → BusPlan → ℕ → ℕ → ChanState
host_before vps plan phase = before_phase plan (host_ends vps) (record { side = HostSide; state = Offered; vp = 0 }) phase

-- so many channels were offered, and each stands so
pub record Stand {X : Type 0} (channels : List X) (count : ℕ) (stands : ℕ → X) : Type 0 where
  pub many : length channels ≡ count
  pub each : (relid : ℕ) → 1 ≤ relid → relid ≤ count → by_relid channels relid ≡ Some (stands relid)

-- a version that the guest may propose: no version that both know is above it
pub record Tries (plan : BusPlan) (v : Version) : Type 0 where
  pub listed : IsVersion v.0
  pub within : v.0 ≤ plan.guest.0
  pub greatest : (u : ℕ) → IsVersion u → u ≤ plan.guest.0 → u ≤ plan.host.0 → u ≤ v.0

-- the version that both agree on: the greatest in the list that is not above either end's highest
pub record Agreed (plan : BusPlan) (v : Version) : Type 0 where
  pub tried : Tries plan v
  pub within_host : v.0 ≤ plan.host.0

-- a version is agreed on, so many channels were offered to a side, and they stand so
pub record Meet {X : Type 0} (plan : BusPlan) (v : Version) (channels : List X) (count : ℕ) (stands : ℕ → X) : Type 0 where
  pub agreed : Agreed plan v
  pub stand : Stand channels count stands

-- the handles of page lists: those of the buffers come behind that of the rings
abbrev pub buffer_handles : Opening → List ℕ
buffer_handles o = if o.buffers then buffer_list o Receive ∷ buffer_list o Send ∷ [] else []

abbrev pub handles_of : Opening → List ℕ
handles_of o = o.gpadl ∷ buffer_handles o

abbrev pub handles : List Opening → List ℕ
handles os = flat_map handles_of os

-- an opening's list has this one
abbrev pub has_list : Opening → ℕ → Bool
has_list o gpadl = (o.gpadl == gpadl) || is_buffer o gpadl
