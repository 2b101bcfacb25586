-- What holds of a guest and its host while they exchange messages.
use Rattle.std.specs.Prelude.{◌≡◌, ℕ, ◌+◌, ◌-◌, ◌<◌, ◌≤◌, ◌==◌, Bool, true, false, filter, List, [], ◌∷◌, ◌++◌, length, Some, is_some, Ok}
use Rattle.contact.specs.declared.part.Part.{Part}
use Rattle.contact.specs.declared.part.Part.TheVariants.{Unload}
use Rattle.chan_state.specs.declared.state.State.TheVariants.{Released}
use Rattle.vmbus_msg.specs.declared.msg.Msg.{Msg}
use Rattle.vmbus_msg.specs.declared.msg.Msg.TheVariants.{OfferChannel, RescindChannelOffer, RelidReleased}
use Rattle.control_model.specs.declared.opening.Opening.{Opening}
use Rattle.control_model.specs.declared.guest_turn.GuestTurn.{GuestTurn}
use Rattle.control_model.specs.Plan.{BusPlan, is_sub, part_after, opening_at, IsPlan}
use Rattle.control_model.specs.Messages.{offer_sub, offer_service, rescind, release}
use Rattle.control_model.specs.Said.{agreed, said_by_guest, said_by_host}
use Rattle.control_model.specs.GuestAt.{GuestAt}
use Rattle.control_model.specs.HostAt.{HostAt}
use Rattle.control_model.specs.Guest.{new_guest, GuestSeen, state_of, guest_done, guest_hears, GuestBegins, GuestTakes}
use Rattle.control_model.specs.Host.{new_host, HostSeen, HostTurn, host_state_of, host_done, host_hears, HostBegins, HostTakes}
use Rattle.control_laws.specs.Over.{IsOver, StandsSo}

-- A guest and its host agree, with these messages on their way to the host and to the guest: each stands as it does by itself, in the same part, and was fed what the other sent, but for what is on its way.
pub record Agrees (plan : BusPlan) (g : GuestSeen) (h : HostSeen) (to_host to_guest : List Msg) : Type 0 where
  pub planned : IsPlan plan
  pub guest_at : GuestAt plan g
  pub host_at : HostAt plan h
  pub part : h.part ≡ g.part
  pub guest_sent : g.posted ≡ h.fed ++ to_host
  pub host_sent : h.posted ≡ g.fed ++ to_guest

-- the messages that both are still to be fed
abbrev pub measure : GuestSeen → HostSeen → ℕ
measure g h = (length (said_by_host g.plan) - length g.fed) + (length (said_by_guest g.plan) - length h.fed)

-- two new controls of one plan agree
abbrev pub NewOnesAgree : Type 0
NewOnesAgree = (plan : BusPlan) → IsPlan plan → Agrees plan (new_guest plan) (new_host plan) [] []

-- both begin the part that comes next, and agree: what they sent is on its way
abbrev pub BothBegin : Type 0
BothBegin = (plan : BusPlan) (g g' : GuestSeen) (h h' : HostSeen) (part : Part) (sent back : List Msg)
    → Agrees plan g h [] [] → part_after plan g.part ≡ Some part → GuestBegins g part sent g' → HostBegins h part back h' → Agrees plan g' h' sent back

-- the first message on its way to the host is not refused, and both still agree when it was taken
abbrev pub HostGoesOn : Type 0
HostGoesOn = (plan : BusPlan) (g : GuestSeen) (h : HostSeen) (m : Msg) (to_host to_guest : List Msg) → Agrees plan g h (m ∷ to_host) to_guest
    → ((turn : HostTurn) × (host_hears h m ≡ Ok turn))
    × ((sent : List Msg) (h' : HostSeen) → HostTakes h m sent h' → Agrees plan g h' to_host (to_guest ++ sent) × (measure g h' < measure g h))

-- the first message on its way to the guest is not refused, and both still agree when it was taken
abbrev pub GuestGoesOn : Type 0
GuestGoesOn = (plan : BusPlan) (g : GuestSeen) (h : HostSeen) (m : Msg) (to_host to_guest : List Msg) → Agrees plan g h to_host (m ∷ to_guest)
    → ((turn : GuestTurn) × (guest_hears g m ≡ Ok turn))
    × ((sent : List Msg) (g' : GuestSeen) → GuestTakes g m sent g' → Agrees plan g' h (to_host ++ sent) to_guest × (measure g' h < measure g h))

-- where no message is on its way, both are done
abbrev pub BothDone : Type 0
BothDone = (plan : BusPlan) (g : GuestSeen) (h : HostSeen) → Agrees plan g h [] [] → is_some g.part ≡ true → (guest_done g ≡ true) × (host_done h ≡ true) × (h.part ≡ g.part)

-- at most 32 messages are on their way to each side
abbrev pub FewOnTheirWay : Type 0
FewOnTheirWay = (plan : BusPlan) (g : GuestSeen) (h : HostSeen) (to_host to_guest : List Msg) → Agrees plan g h to_host to_guest → (length to_host ≤ 32) × (length to_guest ≤ 32)

abbrev pub EndsWell : Type 0
EndsWell = (plan : BusPlan) (g : GuestSeen) (h : HostSeen) → Agrees plan g h [] [] → g.part ≡ Some Unload → IsOver plan g h

-- the state of each channel at the end, from the states of all
abbrev pub EndTellsEach : Type 0
EndTellsEach = (plan : BusPlan) (g : GuestSeen) (h : HostSeen) → IsOver plan g h → StandsSo plan g h

-- a channel that a phase rescinds was opened, and is given back at both sides at the end
abbrev pub RescindedAreReleased : Type 0
RescindedAreReleased = (plan : BusPlan) (g : GuestSeen) (h : HostSeen) (phase place : ℕ) (o : Opening) → IsPlan plan → IsOver plan g h → opening_at plan phase place ≡ Some o → o.rescinded ≡ true
    → (state_of g o.relid ≡ Some Released) × (host_state_of h o.relid ≡ Some Released)

-- a message that takes a channel back; one that gives it back
abbrev pub is_rescind_of : ℕ → Msg → Bool
is_rescind_of relid (RescindChannelOffer padding r) = r == relid
is_rescind_of relid m = false

abbrev pub is_release_of : ℕ → Msg → Bool
is_release_of relid (RelidReleased padding r) = r == relid
is_release_of relid m = false

-- the host takes it back once, and the guest gives it back once
abbrev pub RescindedOnce : Type 0
RescindedOnce = (plan : BusPlan) (g : GuestSeen) (h : HostSeen) (phase place : ℕ) (o : Opening) → IsPlan plan → IsOver plan g h → opening_at plan phase place ≡ Some o → o.rescinded ≡ true
    → (filter (is_rescind_of o.relid) h.posted ≡ rescind o.relid ∷ []) × (filter (is_release_of o.relid) g.posted ≡ release o.relid ∷ [])

-- a sub-channel that a phase opens is given back at both sides at the end
abbrev pub SubsAreReleased : Type 0
SubsAreReleased = (plan : BusPlan) (g : GuestSeen) (h : HostSeen) (phase place : ℕ) (o : Opening) → IsPlan plan → IsOver plan g h → opening_at plan phase place ≡ Some o → is_sub o ≡ true
    → (state_of g o.relid ≡ Some Released) × (host_state_of h o.relid ≡ Some Released)

-- a message that offers a channel
abbrev pub is_offer_of : ℕ → Msg → Bool
is_offer_of relid (OfferChannel padding if_type if_instance reserved1 reserved2 chn_flags mmio user sub reserved3 r monitorid monitor interrupt connection) = r == relid
is_offer_of relid m = false

-- the host offers it once and takes it back once, and the guest gives it back once: no other opening has its relid
abbrev pub SubsOnce : Type 0
SubsOnce = (plan : BusPlan) (g : GuestSeen) (h : HostSeen) (phase place : ℕ) (o : Opening) → IsPlan plan → IsOver plan g h → opening_at plan phase place ≡ Some o → is_sub o ≡ true
    → (filter (is_offer_of o.relid) h.posted ≡ offer_sub o ∷ []) × (filter (is_rescind_of o.relid) h.posted ≡ rescind o.relid ∷ []) × (filter (is_release_of o.relid) g.posted ≡ release o.relid ∷ [])

-- the host offers the channel of a service once, as that of the port that the guest asked for
abbrev pub ServicesOnce : Type 0
ServicesOnce = (plan : BusPlan) (g : GuestSeen) (h : HostSeen) (phase place : ℕ) (o : Opening) (port : ℕ) → IsPlan plan → IsOver plan g h → opening_at plan phase place ≡ Some o → o.dialed ≡ Some port → filter (is_offer_of o.relid) h.posted ≡ offer_service port o.relid ∷ []

-- the version at the end is the lower one of both ends' highest
abbrev pub EndsAtLower : Type 0
EndsAtLower = (plan : BusPlan) (g : GuestSeen) (h : HostSeen) → IsPlan plan → IsOver plan g h → (g.version ≡ Some (record { 0 = agreed plan })) × (h.version ≡ Some (record { 0 = agreed plan }))
