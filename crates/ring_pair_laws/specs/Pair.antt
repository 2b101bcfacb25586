-- Both ends of a channel over one memory, which one of them has at each moment.
use Rattle.std.specs.Prelude.{◌≡◌, ℕ, List, [], ◌≤◌, ◌+◌, false, None}
use Rattle.io_edge.specs.declared.side.Side.{Side}
use Rattle.io_edge.specs.declared.side.Side.TheVariants.{Guest, Host}
use Rattle.ring_machine.specs.declared.machine.EndMachine.{EndMachine}
use Rattle.ring_machine.specs.Endings.{Leaves}
use Rattle.ring_machine.specs.States.{Begins}
use Rattle.ring_core.specs.Told.{Memory, Held, MakesSteps, tells_memory}
use Rattle.ring_core.specs.Seen.{Seen}
use Rattle.ring_pair_laws.specs.Ring.{AtRest}

-- the call that this machine has begun, with this packet, made its steps on the end's own memory
abbrev pub MakesOwnSteps : EndMachine → List ℕ → Seen Held → Seen Held → Type 0
MakesOwnSteps begun packet old new = MakesSteps (λ (_ : Held). None) (λ (k : Held). tells_memory k.memory) begun packet old new

-- what a contract sees of the two ends of a channel, each over a memory that nobody else changes, and the side whose end has the channel's memory. The
-- other end has a spare one of the same size
pub record TwoEnds : Type 0 where
  pub guest : Seen Held
  pub host : Seen Held
  pub at : Side

abbrev pub end_of : TwoEnds → Side → Seen Held
end_of s Guest = s.guest
end_of s Host = s.host

-- the pair with another end at this side
abbrev pub with_end : TwoEnds → Side → Seen Held → TwoEnds
with_end s Guest e = record s { guest = e }
with_end s Host e = record s { host = e }

-- the pair with the memories of its ends exchanged, and the channel's memory at this side
abbrev pub swapped : TwoEnds → Side → TwoEnds
swapped s x = record { guest = record s.guest { seat = s.host.seat }; host = record s.host { seat = s.guest.seat }; at = x }

abbrev pub handed_from : Side → Side → TwoEnds → TwoEnds
handed_from Guest Guest s = s
handed_from Guest Host s = swapped s Host
handed_from Host Guest s = swapped s Guest
handed_from Host Host s = s

-- the pair once the channel's memory is at this side
abbrev pub handed : TwoEnds → Side → TwoEnds
handed s x = handed_from s.at x s

-- the pair once a call of this side's end, which has the channel's memory, left that end so
abbrev pub called : TwoEnds → Side → Seen Held → TwoEnds
called s x new = with_end (handed s x) x new

-- the lists, the indices and the spare room of an end that wasn't called
pub record Stays (old new : Seen Held) : Type 0 where
  pub state : new.state ≡ old.state
  pub spare_sent : new.spare_sent ≡ old.spare_sent
  pub spare_got : new.spare_got ≡ old.spare_got

-- the channel's memory
abbrev pub memory_of : TwoEnds → Memory
memory_of s = (end_of s s.at).seat.memory

-- the cells of each ring
abbrev pub cells_of : TwoEnds → ℕ
cells_of s = s.guest.state.machine.cells

-- the two ends and the channel's memory belong together, the channel has no data pages, no call is under way, and nobody else changes the memory
pub record IsPair (s : TwoEnds) : Type 0 where
  pub alone : (memory_of s).due ≡ []
  pub rest : AtRest (cells_of s) (memory_of s).words s.guest.state s.host.state

-- The end at this side has the channel's memory, begins a call, and runs on that memory to the call's end: that leaves a pair again
abbrev pub KeepsPair : TwoEnds → Side → Type 0
KeepsPair s x = (m : EndMachine) (q : List ℕ) (new : Seen Held) → Begins (end_of (handed s x) x).state m q
    → MakesOwnSteps m q (end_of (handed s x) x) new
    → Leaves (end_of (handed s x) x).state.machine new.state.machine → IsPair (with_end (handed s x) x new)

-- what a send leaves of its end beside the sent list: the indices of its incoming ring
pub record SendKeeps (old new : Seen Held) : Type 0 where
  pub read : new.state.machine.read ≡ old.state.machine.read
  pub start : new.state.machine.start ≡ old.state.machine.start

-- what a take leaves of its end beside the got list: it is awake, and takes at most one packet and its words of the spare room
pub record TakeKeeps (old new : Seen Held) : Type 0 where
  pub awake : (new.state.machine.asleep ≡ false) × (new.state.machine.marked ≡ false)
  pub start : new.state.machine.start ≡ old.state.machine.start
  pub sent : new.state.sent ≡ old.state.sent
  pub spare_sent : new.spare_sent ≡ old.spare_sent
  pub packets : old.spare_got.packets ≤ new.spare_got.packets + 1
  pub words : old.spare_got.words ≤ new.spare_got.words + new.state.machine.len
