-- A channel with data pages one of whose ends makes plans, while its peer makes steps, calls, and stores and loads of page words of its own.
use Rattle.std.specs.Prelude.{◌≡◌, ℕ, ◌<◌, List, [], ◌∷◌, slice_set, Some}
use Rattle.io_edge.specs.declared.side.Side.{Side}
use Rattle.page_kept.specs.declared.due.Due.TheVariants.{Loads}
use Rattle.page_kept.specs.Keepers.{MayStore}
use Rattle.page_kept.specs.Layouts.{layout}
use Rattle.page_kept.specs.Stepped.{word_in, page_stored, page_loaded}
use Rattle.ring_machine.specs.declared.machine.EndMachine.{EndMachine}
use Rattle.ring_machine.specs.declared.machine.Stage.TheVariants.{Idle}
use Rattle.ring_machine.specs.declared.place.Op.{Op}
use Rattle.ring_machine.specs.declared.state.EndState.{EndState}
use Rattle.ring_machine.specs.PageCalls.{newest, with_pages}
use Rattle.ring_machine.specs.Places.{peer_of, words_of}
use Rattle.ring_machine.specs.States.{Begins}
use Rattle.ring_machine.specs.Steps.{next_of}
use Rattle.ring_core.specs.Told.{answer_in}
use Rattle.ring_seat.specs.PageRule.{page_index}
use Rattle.ring_seat.specs.Rule.{with_end}
use Rattle.ring_seat.specs.Whole.{WholeRule}
use Rattle.ring_call_plan_laws.specs.Plays.{Channel, entered_by, stepped_by}
use Rattle.page_access_laws.specs.Calls.{PagedAccess, OfRing, StoresWord, LoadsWord, PagedCall, begun_in}

-- the channel of c data pages meets its rule, of its rings and of its pages
abbrev pub IsLawfulPaged : ℕ → ℕ → Channel → Type 0
IsLawfulPaged n c w = WholeRule n c w.words w.ends

-- one thing that happens: the end that makes plans makes an access, or its peer makes a step, begins a call, or stores or loads a page word
pub data PagedTurn : Type 0 where
  Own : PagedAccess → PagedTurn
  PeerStep : Op → PagedTurn
  PeerCall : EndMachine → List ℕ → PagedTurn
  PeerStores : ℕ → ℕ → ℕ → PagedTurn
  PeerLoads : ℕ → ℕ → PagedTurn

-- a store of a page word by the end y, and a load of one
abbrev pub stored_by : ℕ → Side → ℕ → ℕ → ℕ → Channel → Channel
stored_by n y q w v x = record { words = slice_set x.words (page_index n q w) v; ends = with_end y (with_pages (x.ends y) (page_stored (x.ends y).pages q w v)) x.ends }

abbrev pub loaded_by : ℕ → Side → ℕ → ℕ → Channel → Channel
loaded_by n y q j x = record { words = x.words; ends = with_end y (with_pages (x.ends y) (page_loaded (x.ends y).pages (newest (x.ends y).got) (word_in (words_of n) x.words q j))) x.ends }

abbrev pub turned : ℕ → Side → PagedTurn → Channel → Channel
turned n x (Own (OfRing a)) w = stepped_by n x a.op w
turned n x (Own (StoresWord q i v)) w = stored_by n x q i v w
turned n x (Own (LoadsWord q j v)) w = loaded_by n x q j w
turned n x (PeerStep op) w = stepped_by n (peer_of x) op w
turned n x (PeerCall m p) w = entered_by (peer_of x) m p w
turned n x (PeerStores q i v) w = stored_by n (peer_of x) q i v w
turned n x (PeerLoads q j) w = loaded_by n (peer_of x) q j w

-- the channel after these turns, the last one first
abbrev pub played : ℕ → Side → Channel → List PagedTurn → Channel
played n x w [] = w
played n x w (t ∷ ts) = turned n x t (played n x w ts)

-- a word of one of c pages that is due next to the end e
abbrev pub IsDue : ℕ → EndState → ℕ → ℕ → Type 0
IsDue c e q j = (e.machine.stage ≡ Idle) × (m : ℕ) × (e.pages.due ≡ Loads q m j) × (q < c) × (j < 512)

-- An access gives what the words hold at that moment. A step of the peer is the one that its machine names, a call is one that it may begin, and it stores to a word that it may store to, and
-- loads the one that is due
abbrev pub MayTurn : ℕ → ℕ → Side → PagedTurn → Channel → Type 0
MayTurn n c x (Own (OfRing a)) w = a.gave ≡ answer_in n a.op w.words
MayTurn n c x (Own (StoresWord q i v)) w = Unit {0}
MayTurn n c x (Own (LoadsWord q j v)) w = v ≡ word_in (words_of n) w.words q j
MayTurn n c x (PeerStep op) w = next_of (w.ends (peer_of x)).machine (w.ends (peer_of x)).packet ≡ Some op
MayTurn n c x (PeerCall m p) w = Begins (w.ends (peer_of x)) m p
MayTurn n c x (PeerStores q i v) w = ((w.ends (peer_of x)).machine.stage ≡ Idle) × MayStore (layout c) (peer_of x) (w.ends (peer_of x)).pages q i
MayTurn n c x (PeerLoads q j) w = IsDue c (w.ends (peer_of x)) q j

abbrev pub IsPlayed : ℕ → ℕ → Side → Channel → List PagedTurn → Type 0
IsPlayed n c x w [] = Unit {0}
IsPlayed n c x w (t ∷ ts) = MayTurn n c x t (played n x w ts) × IsPlayed n c x w ts

-- the accesses among the turns
abbrev pub own_of : List PagedTurn → List PagedAccess
own_of [] = []
own_of (Own a ∷ ts) = a ∷ own_of ts
own_of (PeerStep op ∷ ts) = own_of ts
own_of (PeerCall m p ∷ ts) = own_of ts
own_of (PeerStores q i v ∷ ts) = own_of ts
own_of (PeerLoads q j ∷ ts) = own_of ts

-- the channel where the end at x has begun this call
abbrev pub opened_by : Side → PagedCall → Channel → Channel
opened_by x a w = record { words = w.words; ends = with_end x (begun_in (w.ends x) a) w.ends }
