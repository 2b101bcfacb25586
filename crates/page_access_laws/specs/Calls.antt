-- Whole calls by plans of an end of a channel with data pages, and the accesses that its caller makes.
use Rattle.std.specs.Prelude.{Bool, ◌≡◌, ◌≢◌, ℕ, ◌+◌, ◌<◌, ◌≤◌, ◌==◌, true, false, cond, List, [], ◌∷◌, ◌++◌, length, Some}
use Rattle.io_edge.specs.declared.side.Side.{Side}
use Rattle.io_edge.specs.declared.side.Side.TheVariants.{Guest, Host}
use Rattle.page_kept.specs.declared.due.Due.TheVariants.{Loads}
use Rattle.page_kept.specs.declared.page_call.PageCall.TheVariants.{Off}
use Rattle.page_kept.specs.Keepers.{MayStore, asked, back}
use Rattle.page_kept.specs.Layouts.{layout}
use Rattle.page_kept.specs.Stepped.{page_stored, page_loaded}
use Rattle.ring_machine.specs.declared.state.EndState.{EndState}
use Rattle.ring_machine.specs.PageCalls.{newest, with_pages}
use Rattle.ring_machine.specs.States.{after, entered, Begins}
use Rattle.ring_machine.specs.Steps.{is_busy_at, next_of}
use Rattle.ring_call_plan.specs.declared.end.PlanEnd.{PlanEnd as RingEnd}
use Rattle.ring_call_plan.specs.Shown.{Shows as RingShows}
use Rattle.ring_call_plan_laws.specs.Accesses.{Access}
use Rattle.ring_call_plan_laws.specs.Whole.{PlanCall, SendCall, TakeCall, CommitCall, ArmCall, PollCall, MarkCall, IsHeard, accesses, answer_of, begins_as, begun_by, end_of, packet_by}
use Rattle.page_call_plan.specs.declared.end.PageEnd.{PageEnd}
use Rattle.page_call_plan.specs.declared.ids.IdSlot.{IdSlot}
use Rattle.page_call_plan.specs.declared.slot.PageSlot.{PageSlot}
use Rattle.page_call_plan.specs.Answers.{planned, took}
use Rattle.page_call_plan.specs.Causes.{AllFit}
use Rattle.page_call_plan.specs.Ends.{asks_sent, asks_took, end_at, end_due, is_ready, load_says, new_end, new_slots, no_requests, owed_sent, owed_took, send_says, store_says, take_says}
use Rattle.page_call_plan.specs.Shown.{IsExact, Shows, part_of}
use Rattle.page_call_plan.specs.Slots.{part_took, slots_sent, slots_took}

-- what a caller keeps: the numbers of its end of the rings, and those of its pages
pub record PagedEnd : Type 0 where
  pub ring : RingEnd
  pub pages : PageEnd
  pub slots : List PageSlot
  pub asks : List IdSlot
  pub owed : List IdSlot

-- these numbers show the state of an end between two calls
pub record IsShown (z : PagedEnd) (s : EndState) : Type 0 where
  pub ring : RingShows z.ring s.machine
  pub pages : Shows s.machine.side s.got s.pages z.pages z.slots z.asks z.owed
  pub between : is_busy_at s.machine.stage ≡ false
  pub idle : z.pages.state ≡ 0
  pub copied : s.copied ≡ []
  pub call : s.pages.call ≡ Off
  pub fit : AllFit z.slots

pub data PagedCall : Type 0 where
  -- a call of the rings
  RingCall : PlanCall → PagedCall
  -- a store of these words of a page, from a word on
  StoreCall : ℕ → ℕ → List ℕ → PagedCall
  -- a load of the words that are due, which are these
  LoadCall : List ℕ → PagedCall

-- The calls that come first let it: a send and a take are planned by the pages and not refused by the ring, and nothing is planned or to be loaded where the ring's other calls are made
abbrev pub PagesLet : PagedEnd → PlanCall → Type 0
PagesLet z (SendCall p v x w) = send_says z.pages 0 z.slots z.asks z.owed p ≡ planned
PagesLet z (TakeCall v h ws) = take_says z.pages z.slots z.owed ≡ planned
PagesLet z (CommitCall f q v) = is_ready z.pages ≡ true
PagesLet z (ArmCall want w r k) = is_ready z.pages ≡ true
PagesLet z (PollCall v) = Unit {0}
PagesLet z MarkCall = is_ready z.pages ≡ true

abbrev pub IsLet : PagedEnd → PagedCall → Type 0
IsLet z (RingCall c) = PagesLet z c × (begins_as z.ring c ≢ 0)
IsLet z (StoreCall q w vs) = store_says z.pages z.slots q w (length vs) ≡ planned
IsLet z (LoadCall vs) = load_says z.pages z.slots ≡ planned

-- what the caller hands on to the ring is as it has to be, and a load loads all that is due
abbrev pub IsHeardBy : PagedEnd → PagedCall → Type 0
IsHeardBy z (RingCall c) = IsHeard z.ring c
IsHeardBy z (StoreCall q w vs) = Unit {0}
IsHeardBy z (LoadCall vs) = length vs ≡ z.pages.due_words

-- the packet whose first word is h, and whose other words are these, the last one first
abbrev pub taken_of : ℕ → List ℕ → List ℕ
taken_of h [] = h ∷ []
taken_of h (v ∷ ws) = taken_of h ws ++ v ∷ []

-- The numbers that the calls leave. What a send lends, or gives back, counts once the ring has the packet, and what comes with a packet once it is taken
abbrev pub with_ring : RingEnd → PageEnd → PagedEnd → PagedEnd
with_ring r e z = record { ring = r; pages = e; slots = z.slots; asks = z.asks; owed = z.owed }

abbrev pub sent_end : RingEnd → List ℕ → PagedEnd → PagedEnd
sent_end r p z = record { ring = r; pages = end_at 0 z.pages; slots = slots_sent z.slots p; asks = asks_sent z.asks p; owed = owed_sent z.owed p }

abbrev pub took_end : RingEnd → List ℕ → PagedEnd → PagedEnd
took_end r p z = record { ring = r; pages = end_due (part_took z.slots p); slots = slots_took z.slots p; asks = asks_took z.asks p; owed = owed_took z.owed p }

abbrev pub ring_left : PagedEnd → PlanCall → PagedEnd
ring_left z (SendCall p v x w) = cond (begins_as z.ring (SendCall p v x w) == planned) (sent_end (end_of z.ring (SendCall p v x w)) p z) (with_ring (end_of z.ring (SendCall p v x w)) (end_at 0 z.pages) z)
ring_left z (TakeCall v h ws) = cond (answer_of z.ring (TakeCall v h ws) == took) (took_end (end_of z.ring (TakeCall v h ws)) (taken_of h ws) z) (with_ring (end_of z.ring (TakeCall v h ws)) (end_at 0 z.pages) z)
ring_left z (CommitCall f q v) = with_ring (end_of z.ring (CommitCall f q v)) z.pages z
ring_left z (ArmCall want w r k) = with_ring (end_of z.ring (ArmCall want w r k)) z.pages z
ring_left z (PollCall v) = with_ring (end_of z.ring (PollCall v)) z.pages z
ring_left z MarkCall = with_ring (end_of z.ring MarkCall) z.pages z

abbrev pub left_by : PagedEnd → PagedCall → PagedEnd
left_by z (RingCall c) = ring_left z c
left_by z (StoreCall q w vs) = with_ring z.ring (end_at 0 z.pages) z
left_by z (LoadCall vs) = with_ring z.ring new_end z

-- an access of a caller: one of the rings, the signals and the marks; or a store, or a load, of a page's word
pub data PagedAccess : Type 0 where
  OfRing : Access → PagedAccess
  StoresWord : ℕ → ℕ → ℕ → PagedAccess
  LoadsWord : ℕ → ℕ → ℕ → PagedAccess

-- The accesses of each call, the last one first
abbrev pub of_ring : List Access → List PagedAccess
of_ring [] = []
of_ring (a ∷ acts) = OfRing a ∷ of_ring acts

abbrev pub stores_on : List PagedAccess → ℕ → ℕ → List ℕ → List PagedAccess
stores_on before q w [] = before
stores_on before q w (v ∷ vs) = stores_on (StoresWord q w v ∷ before) q (w + 1) vs

abbrev pub loads_on : List PagedAccess → ℕ → ℕ → List ℕ → List PagedAccess
loads_on before q j [] = before
loads_on before q j (v ∷ vs) = loads_on (LoadsWord q j v ∷ before) q (j + 1) vs

abbrev pub accesses_by : Side → PagedEnd → PagedCall → List PagedAccess
accesses_by y z (RingCall c) = of_ring (accesses y z.ring c)
accesses_by y z (StoreCall q w vs) = stores_on [] q w vs
accesses_by y z (LoadCall vs) = loads_on [] z.pages.due_page 0 vs

-- A new end of a channel of c data pages, with slots for the ids of i requests of its own, and of j requests of its peer: the host's pages are those from 64 on
abbrev pub is_host : Side → Bool
is_host Guest = false
is_host Host = true

abbrev pub new_by : RingEnd → Side → ℕ → ℕ → ℕ → PagedEnd
new_by r x c i j = record { ring = r; pages = new_end; slots = new_slots (is_host x) c; asks = no_requests i; owed = no_requests j }

-- the state of an end after an access, and after these, the last one first
abbrev pub accessed : EndState → PagedAccess → EndState
accessed s (OfRing a) = after s a.gave
accessed s (StoresWord q w v) = with_pages s (page_stored s.pages q w v)
accessed s (LoadsWord q j v) = with_pages s (page_loaded s.pages (newest s.got) v)

abbrev pub after_all : EndState → List PagedAccess → EndState
after_all s [] = s
after_all s (a ∷ acts) = accessed (after_all s acts) a

-- An access that the rule lets the end make at this state: the one that its machine names next; a store of a word that it may store to, or a load of the word that is due next, where no call of
-- the rings is under way
abbrev pub IsAllowed : EndState → PagedAccess → Type 0
IsAllowed s (OfRing a) = next_of s.machine s.packet ≡ Some a.op
IsAllowed s (StoresWord q w v) = (is_busy_at s.machine.stage ≡ false) × MayStore (layout s.pages.count) s.machine.side s.pages q w
IsAllowed s (LoadsWord q j v) = (is_busy_at s.machine.stage ≡ false) × (n : ℕ) × (s.pages.due ≡ Loads q n j) × (q < s.pages.count) × (j < n) × (n ≤ 512)

abbrev pub AreAllowed : EndState → List PagedAccess → Type 0
AreAllowed s [] = Unit {0}
AreAllowed s (a ∷ acts) = IsAllowed (after_all s acts) a × AreAllowed s acts

-- the state in which a call of the rings has begun; a store and a load of page words begin none
abbrev pub begun_in : EndState → PagedCall → EndState
begun_in s (RingCall c) = entered s (begun_by s.machine c) (packet_by c)
begun_in s (StoreCall q w vs) = s
begun_in s (LoadCall vs) = s

abbrev pub BeginsIn : EndState → PagedCall → Type 0
BeginsIn s (RingCall c) = Begins s (begun_by s.machine c) (packet_by c)
BeginsIn s (StoreCall q w vs) = Unit {0}
BeginsIn s (LoadCall vs) = Unit {0}

-- just as many requests of each id are open as these slots have
abbrev pub IsExactIn : EndState → List IdSlot → Type 0
IsExactIn s asks = IsExact s.machine.side s.got s.pages asks

-- the end took no more completions of an id than it sent requests, as beside a peer that completes none twice
abbrev pub BacksAsked : EndState → Type 0
BacksAsked s = (t : ℕ) → back t (part_of s.machine.side s.got s.pages) ≤ asked t (part_of s.machine.side s.got s.pages)

-- The whole call c of an end whose numbers show the state s: it begins a call of that state, each access is one that the rule lets, and the numbers that are left show the state after the last one.
-- Exact numbers stay so beside a peer that completes no request twice
pub record IsPagedCall (s : EndState) (z : PagedEnd) (c : PagedCall) : Type 0 where
  pub begins : BeginsIn s c
  pub steps : AreAllowed (begun_in s c) (accesses_by s.machine.side z c)
  pub shows : IsShown (left_by z c) (after_all (begun_in s c) (accesses_by s.machine.side z c))
  pub exact : IsExactIn s z.asks → BacksAsked (after_all (begun_in s c) (accesses_by s.machine.side z c)) → IsExactIn (after_all (begun_in s c) (accesses_by s.machine.side z c)) (left_by z c).asks
