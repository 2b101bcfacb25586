-- What holds between any two steps of the two ends of a channel.
use Rattle.std.specs.Prelude.{◌≡◌, ◌≢◌, ℕ, ◌<◌, true, cond, List, slice_index}
use Rattle.io_edge.specs.declared.side.Side.{Side}
use Rattle.io_edge.specs.declared.side.Side.TheVariants.{Guest, Host}
use Rattle.ring_machine.specs.declared.machine.EndMachine.{EndMachine}
use Rattle.ring_machine.specs.declared.machine.Stage.TheVariants.{Stopped}
use Rattle.ring_machine.specs.declared.state.EndState.{EndState}
use Rattle.ring_machine.specs.Places.{out_of, in_of, peer_of, signal_of}
use Rattle.ring_machine.specs.Loops.{is_given_at}
use Rattle.ring_pair_laws.specs.Ring.{ChannelOk, ring_in}
use Rattle.ring_seat.specs.Points.{AtPoint, pending_of}
use Rattle.ring_seat.specs.Waking.{WakePending}

-- The mask word of an end's incoming ring, and the pending word of its outgoing ring, are what the end last stored there. That ring's pending word
-- counts, and the end's signal is up or down
pub record OwnWords (n : ℕ) (ws : List ℕ) (x : Side) (m : EndMachine) : Type 0 where
  pub mask : ring_in n ws (in_of x) 2 ≡ cond m.masked 1 0
  pub pending : ring_in n ws (out_of x) 3 ≡ pending_of m
  pub feature : ring_in n ws (out_of x) 4 ≡ 1
  pub signal : slice_index ws (signal_of n x) < 2

-- One end's own part of the rule: it isn't stopped, its mask and its wanted room are those of its point, past its store of the read index a commit
-- has given back all that was taken, and its words are what it last stored
pub record OwnPart (n : ℕ) (ws : List ℕ) (x : Side) (e : EndState) : Type 0 where
  pub goes : e.machine.stage ≢ Stopped
  pub point : AtPoint e.machine
  pub committed : is_given_at e.machine.stage ≡ true → e.machine.start ≡ e.machine.read
  pub words : OwnWords n ws x e.machine

-- The words of a channel whose rings have n cells, and the states of its two ends: each ring stands for what was sent and got, each end's own part
-- holds, and no wake-up is lost
pub record ChannelInvariant (n : ℕ) (ws : List ℕ) (ends : Side → EndState) : Type 0 where
  pub channel : ChannelOk n ws (ends Guest) (ends Host)
  pub own : (x : Side) → OwnPart n ws x (ends x)
  pub wakes : (x : Side) → WakePending n ws x (ends x).machine (ends (peer_of x)).machine

-- another end at this side
abbrev pub with_end : Side → EndState → (Side → EndState) → Side → EndState
with_end Guest e ends Guest = e
with_end Guest e ends Host = ends Host
with_end Host e ends Guest = ends Guest
with_end Host e ends Host = e
