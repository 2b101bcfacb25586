-- What each step of an end counts, and that no end takes more signals than its peer raised.
use Rattle.std.proofs.Common.{◌≡◌, ℕ, ◌+◌, ◌≤◌, ◌==◌, List, get_or, Some, refl, sym, subst, arith}
use Rattle.io_edge.specs.declared.side.Side.{Side}
use Rattle.io_edge.specs.declared.side.Side.TheVariants.{Guest, Host}
use Rattle.ring_machine.specs.declared.machine.Stage.{Stage}
use Rattle.ring_machine.specs.declared.machine.Stage.TheVariants.{Idle, PollSignal}
use Rattle.ring_machine.specs.declared.machine.EndMachine.{EndMachine}
use Rattle.ring_machine.specs.declared.place.Op.{Op}
use Rattle.ring_machine.specs.Places.{peer_of, signal_of}
use Rattle.ring_machine.specs.Steps.{next_of}
use Rattle.ring_machine.specs.States.{Continues}
use Rattle.ring_core.specs.declared.told.Told.{Told}
use Rattle.ring_core.specs.Told.{written, answer_in, raises_at, wakes_at, told_at, told_next}
use Rattle.ring_machine.proofs.Sound.{at_cond}
use Rattle.ring_seat.specs.Rule.{ChannelInvariant, with_end}
use Rattle.ring_seat.specs.Seats.{SignalsRaised, states}
use Rattle.ring_seat.proofs.Waits.{WaitsBy, step_waits, signal_after, raised_after}
use Rattle.ring_seat.proofs.OwnWakes.{KnownBy}
use Rattle.ring_seat.proofs.Wakes.{known}
use Rattle.ring_seat.proofs.Sided.{Sided, sided_of, stepped, continued}

-- what is told of an end and its peer, from this end's side
pub record Counted (n : ℕ) (x : Side) (ws : List ℕ) (u p : Told) : Type 0 where
  pub sided : Sided n x ws u.state p.state
  pub mine : SignalsRaised n ws x u p
  pub peers : SignalsRaised n ws (peer_of x) p u

pub counted_of : (n : ℕ) (ws : List ℕ) (ends : Side → Told) → ChannelInvariant n ws (states ends) → ((x : Side) → SignalsRaised n ws x (ends x) (ends (peer_of x))) → (x : Side) → Counted n x ws (ends x) (ends (peer_of x))
counted_of n ws ends i s Guest = record { sided = sided_of n ws (states ends) i Guest; mine = s Guest; peers = s Host }
counted_of n ws ends i s Host = record { sided = sided_of n ws (states ends) i Host; mine = s Host; peers = s Guest }

-- an end that wakes found its signal up
own_raised : (st : Stage) (sig v woke raised : ℕ) (k : EndMachine) → KnownBy st sig k v → woke + sig ≤ raised → woke + wakes_at st v + signal_after st sig ≤ raised
own_raised PollSignal sig v woke raised k l h =
    at_cond (λ (c : ℕ). woke + c + 0 ≤ raised) (v == 0) _ _
    (λ z. omega (arith, h))
    (λ z. (let up : 1 ≤ v = grind (arith, z) in omega (arith, l, h, up)))
own_raised _ sig v woke raised k l h = omega (arith, h)

-- a raise counts before the signal is taken
peers_raised : (st : Stage) (sig woke raised : ℕ) → woke + sig ≤ raised → woke + raised_after st sig ≤ raised + raises_at st
peers_raised Idle sig woke raised h = omega (arith, h)
peers_raised _ sig woke raised h = omega (arith, h)

next_own : (ws : List ℕ) (u p : Told) → Counted u.state.machine.cells u.state.machine.side ws u p → (op : Op) → next_of u.state.machine u.state.packet ≡ Some op
    → Counted u.state.machine.cells u.state.machine.side (written u.state.machine.cells op ws) (told_next u (answer_in u.state.machine.cells op ws)) p
next_own ws u p c op h =
    let m : EndMachine = u.state.machine in
    let ws' : List ℕ = written m.cells op ws in
    let v : ℕ = answer_in m.cells op ws in
    let w : WaitsBy m.stage m.cells m.side m.want ws ws' = step_waits m u.state.packet ws c.sided.both.fits.sound c.sided.both.words op h in
    let k : KnownBy m.stage (get_or ws (signal_of m.cells m.side) 0) p.state.machine v = known ws u.state p.state c.sided.both c.sided.peers.words op h in
    record {
      sided = stepped m.cells m.side ws u.state p.state c.sided op h;
      mine = subst (λ (s : ℕ). u.woke + wakes_at m.stage v + s ≤ p.raised) (sym w.signal) (own_raised m.stage (get_or ws (signal_of m.cells m.side) 0) v u.woke p.raised p.state.machine k c.mine);
      peers = subst (λ (s : ℕ). p.woke + s ≤ u.raised + raises_at m.stage) (sym w.raised) (peers_raised m.stage (get_or ws (signal_of m.cells (peer_of m.side)) 0) p.woke u.raised c.peers);
    }

-- a step of the end on the channel's words
pub next_counted : (n : ℕ) (x : Side) (ws : List ℕ) (u p : Told) → Counted n x ws u p → (op : Op) → next_of u.state.machine u.state.packet ≡ Some op → Counted n x (written n op ws) (told_next u (answer_in n op ws)) p
next_counted n x ws u p c =
    subst (λ (k : ℕ × Side). Counted k.0 k.1 ws u p → (op : Op) → next_of u.state.machine u.state.packet ≡ Some op → Counted k.0 k.1 (written k.0 op ws) (told_next u (answer_in k.0 op ws)) p)
    (λ j. (c.sided.both.fits.cells j, c.sided.both.fits.side j)) (next_own ws u p) c

-- a call that begins, or goes on
pub at_counted : (n : ℕ) (x : Side) (ws : List ℕ) (u p : Told) → Counted n x ws u p → (m : EndMachine) (q : List ℕ) → Continues u.state m q → Counted n x ws (told_at u m q) p
at_counted n x ws u p c m q go = record { sided = continued n x ws u.state p.state c.sided m q go; mine = c.mine; peers = c.peers }

-- what is told of both ends, after a step of one of them
abbrev pub with_told : Side → Told → (Side → Told) → Side → Told
with_told Guest u ends Guest = u
with_told Guest u ends Host = ends Host
with_told Host u ends Guest = ends Guest
with_told Host u ends Host = u

pub states_with : (x : Side) (u : Told) (ends : Side → Told) (y : Side) → with_end x u.state (states ends) y ≡ (with_told x u ends y).state
states_with Guest u ends Guest = refl
states_with Guest u ends Host = refl
states_with Host u ends Guest = refl
states_with Host u ends Host = refl

-- what holds of each end
pub each_told : (P : Side → Told → Type 0) (x : Side) (u : Told) (ends : Side → Told) → P x u → ((y : Side) → P y (ends y)) → (y : Side) → P y (with_told x u ends y)
each_told P Guest u ends a b Guest = a
each_told P Guest u ends a b Host = b Host
each_told P Host u ends a b Guest = b Guest
each_told P Host u ends a b Host = a

pub signals_with : (n : ℕ) (x : Side) (ws : List ℕ) (u : Told) (ends : Side → Told) → Counted n x ws u (ends (peer_of x)) → (y : Side) → SignalsRaised n ws y (with_told x u ends y) (with_told x u ends (peer_of y))
signals_with n Guest ws u ends c Guest = c.mine
signals_with n Guest ws u ends c Host = c.peers
signals_with n Host ws u ends c Guest = c.peers
signals_with n Host ws u ends c Host = c.mine
