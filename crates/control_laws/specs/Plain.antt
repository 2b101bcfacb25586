-- What both sides say over plans without sub-channels, and how many channels there are where all are offered at the contact.
use Rattle.std.specs.Prelude.{◌≡◌, false, List, [], ◌∷◌, ◌++◌, length, if◌then◌else◌}
use Rattle.std.specs.List.{AllByRecursion, flat_map}
use Rattle.vmbus_msg.specs.declared.msg.Msg.{Msg}
use Rattle.control_model.specs.declared.opening.Opening.{Opening}
use Rattle.control_model.specs.Plan.{BusPlan, is_sub, is_later, all_openings}
use Rattle.control_model.specs.Messages.{close, teardown, torndown, rescind, release}
use Rattle.control_model.specs.Said.{guest_empties, host_empties, guest_opens, host_opens, guest_moves, host_moves, guest_in_phase, host_in_phase, channel_count}

-- none of these is of a sub-channel
abbrev pub NoSubs : List Opening → Type 0
NoSubs os = AllByRecursion (λ o. is_sub o ≡ false) os

-- each of these is offered at the contact
abbrev pub NoLater : List Opening → Type 0
NoLater os = AllByRecursion (λ o. is_later o ≡ false) os

-- a channel that is rescinded is taken back and given back; of each other one the page lists of its buffers are torn down, it is closed, and its own page list torn down
abbrev pub guest_closes_one : Opening → List Msg
guest_closes_one o = if o.rescinded then release o.relid ∷ [] else guest_empties o ++ (close o.relid ∷ teardown o ∷ [])

abbrev pub host_closes_one : Opening → List Msg
host_closes_one o = if o.rescinded then rescind o.relid ∷ [] else host_empties o ++ (torndown o.gpadl ∷ [])

-- a phase opens its channels at its start and moves them, and closes them or gives them back at its end, all in order of offer
abbrev pub PlainGuest : Type 0
PlainGuest = (plan : BusPlan) (os : List Opening) → NoSubs os → guest_in_phase plan os ≡ flat_map guest_opens os ++ (guest_moves plan os ++ flat_map guest_closes_one os)

abbrev pub PlainHost : Type 0
PlainHost = (plan : BusPlan) (os : List Opening) → NoSubs os → host_in_phase plan os ≡ flat_map host_opens os ++ (host_moves plan os ++ flat_map host_closes_one os)

-- and where no channel is offered later there is one for each device
abbrev pub PlainCount : Type 0
PlainCount = (plan : BusPlan) → NoLater (all_openings plan.phases) → channel_count plan ≡ length plan.kinds
