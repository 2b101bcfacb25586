-- What holds of a guest by itself, and of a host by itself.
use Rattle.std.specs.Prelude.{◌≡◌, ◌≢◌, true, false, List, [], ◌∷◌, ◌++◌, Some, Ok, Err}
use Rattle.std.specs.List.{AllByRecursion}
use Rattle.contact.specs.declared.part.Part.{Part}
use Rattle.contact.specs.declared.part.Part.TheVariants.{Unload}
use Rattle.vmbus_msg.specs.Grammar.{type_of}
use Rattle.vmbus_msg.specs.declared.msg.Msg.{Msg}
use Rattle.control_model.specs.declared.fault.ControlFault.TheVariants.{Unasked}
use Rattle.control_model.specs.declared.guest_turn.GuestTurn.{GuestTurn}
use Rattle.control_model.specs.Plan.{BusPlan, part_after, IsPlan}
use Rattle.control_model.specs.Messages.{farewell, farewell_taken}
use Rattle.control_model.specs.Said.{said_by_guest, said_by_host}
use Rattle.control_model.specs.Guest.{new_guest, GuestSeen, can_begin, waits_for_nothing, guest_done, guest_hears, GuestBegins, GuestTakes}
use Rattle.control_model.specs.Host.{new_host, HostSeen, HostTurn, host_can_begin, host_waits_for_nothing, host_done, host_hears, HostBegins, HostTakes}
use Rattle.control_model.specs.GuestAt.{GuestAt}
use Rattle.control_model.specs.HostAt.{HostAt}
use Rattle.control_laws.specs.Over.{IsOver}

-- messages that all others follow
abbrev pub IsFront : List Msg → List Msg → Type 0
IsFront front all = (rest : List Msg) × (all ≡ front ++ rest)

-- a new one stands at the start
abbrev pub NewOnesStand : Type 0
NewOnesStand = (plan : BusPlan) → GuestAt plan (new_guest plan) × HostAt plan (new_host plan)

-- a side that begins the part that comes next stands where that part begins
abbrev pub GuestStarts : Type 0
GuestStarts = (plan : BusPlan) (g g' : GuestSeen) (part : Part) (sent : List Msg) → IsPlan plan → GuestAt plan g → can_begin g ≡ true → part_after plan g.part ≡ Some part → GuestBegins g part sent g' → GuestAt plan g'

abbrev pub HostStarts : Type 0
HostStarts = (plan : BusPlan) (h h' : HostSeen) (part : Part) (sent : List Msg) → IsPlan plan → HostAt plan h → host_can_begin h ≡ true → part_after plan h.part ≡ Some part → HostBegins h part sent h' → HostAt plan h'

-- while it waits for a message, it takes the next one of all that the other side says, and goes on
abbrev pub GuestHears : Type 0
GuestHears = (plan : BusPlan) (g : GuestSeen) (m : Msg) → IsPlan plan → GuestAt plan g → waits_for_nothing g.awaits ≡ false → IsFront (g.fed ++ m ∷ []) (said_by_host plan)
    → ((turn : GuestTurn) × (guest_hears g m ≡ Ok turn)) × ((sent : List Msg) (g' : GuestSeen) → GuestTakes g m sent g' → GuestAt plan g')

abbrev pub HostHears : Type 0
HostHears = (plan : BusPlan) (h : HostSeen) (m : Msg) → IsPlan plan → HostAt plan h → host_waits_for_nothing h.awaits ≡ false → IsFront (h.fed ++ m ∷ []) (said_by_guest plan)
    → ((turn : HostTurn) × (host_hears h m ≡ Ok turn)) × ((sent : List Msg) (h' : HostSeen) → HostTakes h m sent h' → HostAt plan h')

-- what it posted is the front of all that it says, and what it was fed the front of all that the other side says
abbrev pub GuestFronts : Type 0
GuestFronts = (plan : BusPlan) (g : GuestSeen) → GuestAt plan g → IsFront g.posted (said_by_guest plan) × IsFront g.fed (said_by_host plan)

abbrev pub HostFronts : Type 0
HostFronts = (plan : BusPlan) (h : HostSeen) → HostAt plan h → IsFront h.posted (said_by_host plan) × IsFront h.fed (said_by_guest plan)

-- a host never says the farewell, nor a guest its answer, and the other side never takes it
abbrev pub GuestIsCut : Type 0
GuestIsCut = ((plan : BusPlan) → AllByRecursion (λ m. m ≢ farewell) (said_by_host plan)) × ((g : GuestSeen) → guest_hears g farewell ≡ Err (Unasked (type_of farewell)))

abbrev pub HostIsCut : Type 0
HostIsCut = ((plan : BusPlan) → AllByRecursion (λ m. m ≢ farewell_taken) (said_by_guest plan)) × ((h : HostSeen) → host_hears h farewell_taken ≡ Err (Unasked (type_of farewell_taken)))

-- both are done with the last part: all is said and heard
abbrev pub BothOver : Type 0
BothOver = (plan : BusPlan) (g : GuestSeen) (h : HostSeen) → IsPlan plan → GuestAt plan g → HostAt plan h → g.part ≡ Some Unload → h.part ≡ Some Unload → guest_done g ≡ true → host_done h ≡ true → IsOver plan g h
