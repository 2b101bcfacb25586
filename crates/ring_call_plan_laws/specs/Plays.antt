-- A channel one of whose ends makes plans, while its peer makes steps and calls of its own.
use Rattle.std.specs.Prelude.{◌≡◌, ℕ, List, [], ◌∷◌, Some}
use Rattle.io_edge.specs.declared.side.Side.{Side}
use Rattle.ring_machine.specs.declared.machine.EndMachine.{EndMachine}
use Rattle.ring_machine.specs.declared.place.Op.{Op}
use Rattle.ring_machine.specs.declared.state.EndState.{EndState}
use Rattle.ring_machine.specs.Places.{peer_of}
use Rattle.ring_machine.specs.States.{after, entered, Begins}
use Rattle.ring_machine.specs.Steps.{next_of}
use Rattle.ring_core.specs.Told.{written, answer_in}
use Rattle.ring_seat.specs.Rule.{ChannelInvariant, with_end}
use Rattle.ring_call_plan_laws.specs.Accesses.{Access}

-- the words of a channel, and the states of its two ends
pub record Channel : Type 0 where
  pub words : List ℕ
  pub ends : Side → EndState

-- the channel meets its rule
abbrev pub IsLawfulChannel : ℕ → Channel → Type 0
IsLawfulChannel n w = ChannelInvariant n w.words w.ends

-- one thing that happens: the end that makes plans makes an access, or its peer makes a step, or begins a call
pub data Turn : Type 0 where
  Own : Access → Turn
  PeerStep : Op → Turn
  PeerCall : EndMachine → List ℕ → Turn

-- a step of the end y, and a call that it begins
abbrev pub stepped_by : ℕ → Side → Op → Channel → Channel
stepped_by n y op w = record { words = written n op w.words; ends = with_end y (after (w.ends y) (answer_in n op w.words)) w.ends }

abbrev pub entered_by : Side → EndMachine → List ℕ → Channel → Channel
entered_by y m p w = record { words = w.words; ends = with_end y (entered (w.ends y) m p) w.ends }

abbrev pub turned : ℕ → Side → Turn → Channel → Channel
turned n x (Own a) w = stepped_by n x a.op w
turned n x (PeerStep op) w = stepped_by n (peer_of x) op w
turned n x (PeerCall m p) w = entered_by (peer_of x) m p w

-- the channel after these turns, the last one first
abbrev pub played : ℕ → Side → Channel → List Turn → Channel
played n x w [] = w
played n x w (t ∷ ts) = turned n x t (played n x w ts)

-- an access gives what the words hold at that moment; a step of the peer is the one that its machine names, and a call is one that it may begin
abbrev pub MayTurn : ℕ → Side → Turn → Channel → Type 0
MayTurn n x (Own a) w = a.gave ≡ answer_in n a.op w.words
MayTurn n x (PeerStep op) w = next_of (w.ends (peer_of x)).machine (w.ends (peer_of x)).packet ≡ Some op
MayTurn n x (PeerCall m p) w = Begins (w.ends (peer_of x)) m p

abbrev pub IsPlayed : ℕ → Side → Channel → List Turn → Type 0
IsPlayed n x w [] = Unit {0}
IsPlayed n x w (t ∷ ts) = MayTurn n x t (played n x w ts) × IsPlayed n x w ts

-- the accesses among the turns
abbrev pub own_of : List Turn → List Access
own_of [] = []
own_of (Own a ∷ ts) = a ∷ own_of ts
own_of (PeerStep op ∷ ts) = own_of ts
own_of (PeerCall m p ∷ ts) = own_of ts
