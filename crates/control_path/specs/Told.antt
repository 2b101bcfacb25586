-- What a guest has told its host once the channels of a phase are open.
use Rattle.std.specs.Prelude.{◌≡◌, ℕ, suc, true, List, ◌++◌, Some}
use Rattle.std.specs.List.{flat_map}
use Rattle.contact.specs.declared.part.Part.TheVariants.{PhaseStart}
use Rattle.vmbus_msg.specs.declared.msg.Msg.{Msg}
use Rattle.control_model.specs.declared.opening.Opening.{Opening}
use Rattle.control_model.specs.declared.buffer.Buffer.TheVariants.{Receive, Send}
use Rattle.control_model.specs.Plan.{BusPlan, buffer_list, closing_of, opening_at, IsPlan}
use Rattle.control_model.specs.Said.{guest_closes, said_by_guest}
use Rattle.control_model.specs.Guest.{GuestSeen, guest_done}
use Rattle.control_model.specs.GuestAt.{GuestAt, guest_from}
use Rattle.guest_end.specs.Told.{lists_told}

-- of all that a guest of this plan says it posted the front up to the end of this phase's start: the messages that close the channels of the phase are left, and those of the phases behind it
abbrev pub IsSaidToStart : BusPlan → ℕ → List Msg → Type 0
IsSaidToStart plan phase posted = said_by_guest plan ≡ posted ++ (flat_map guest_closes (closing_of plan phase) ++ guest_from plan (suc phase))

-- that is what a guest posted which is done with the start of the phase
abbrev pub StartIsSaid : Type 0
StartIsSaid = (plan : BusPlan) (g : GuestSeen) (phase : ℕ) → GuestAt plan g → g.part ≡ Some (PhaseStart phase) → guest_done g ≡ true → IsSaidToStart plan phase g.posted

-- the last page lists that it told for a channel with buffers are then those that the plan has for them, whatever it told for the channel before: the receive buffer's, and the send buffer's
abbrev pub BuffersAreTold : Type 0
BuffersAreTold = (plan : BusPlan) (posted : List Msg) (phase place : ℕ) (o : Opening) → IsPlan plan → IsSaidToStart plan phase posted → opening_at plan phase place ≡ Some o → o.buffers ≡ true
    → lists_told o.relid (0, 0) posted ≡ (buffer_list o Receive, buffer_list o Send)
