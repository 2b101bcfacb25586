-- The rule from the side of one of the ends, and how each step of that end keeps it.
use Rattle.std.proofs.Common.{◌≡◌, ℕ, List, get_or, Some, refl, sym, subst, ⊎_elim}
use Rattle.io_edge.specs.declared.side.Side.{Side}
use Rattle.io_edge.specs.declared.side.Side.TheVariants.{Guest, Host}
use Rattle.ring_machine.specs.declared.machine.EndMachine.{EndMachine}
use Rattle.ring_machine.specs.declared.state.EndState.{EndState}
use Rattle.ring_machine.specs.declared.place.Op.{Op}
use Rattle.ring_machine.specs.Places.{peer_of, signal_of}
use Rattle.ring_machine.specs.Steps.{fed, next_of}
use Rattle.ring_machine.specs.States.{after, entered, Begins, Continues}
use Rattle.ring_core.specs.Told.{written, answer_in}
use Rattle.ring_pair_laws.proofs.Keeping.{Both, Goes, both_of, channel_of, step_both, call_began}
use Rattle.ring_pair_laws.proofs.Pairing.{begins_sound}
use Rattle.ring_seat.specs.Rule.{OwnPart, ChannelInvariant, with_end}
use Rattle.ring_seat.specs.Waking.{WakePending}
use Rattle.ring_seat.proofs.Waits.{WaitsBy, step_waits}
use Rattle.ring_machine.proofs.Sound.{no_true}
use Rattle.ring_seat.proofs.PointLaws.{fed_point, begins_opens}
use Rattle.ring_seat.proofs.WordLaws.{own_words, peers_words, begins_words}
use Rattle.ring_seat.proofs.WakeTables.{fed_given}
use Rattle.ring_seat.proofs.OwnWakes.{Waking, KnownBy, own_waking}
use Rattle.ring_seat.proofs.PeerWakes.{peers_waking}
use Rattle.ring_seat.proofs.Wakes.{turned, known, to_waking, of_waking, opens_own, opens_peers}

-- an end e of this side, and its peer p
pub record Sided (n : ℕ) (x : Side) (ws : List ℕ) (e p : EndState) : Type 0 where
  pub both : Both n x ws e p
  pub mine : OwnPart n ws x e
  pub peers : OwnPart n ws (peer_of x) p
  pub wakes : WakePending n ws x e.machine p.machine
  pub peers_wakes : WakePending n ws (peer_of x) p.machine e.machine

pub sided_of : (n : ℕ) (ws : List ℕ) (ends : Side → EndState) → ChannelInvariant n ws ends → (x : Side) → Sided n x ws (ends x) (ends (peer_of x))
sided_of n ws ends i Guest = record { both = both_of n Guest ws (ends Guest) (ends Host) i.channel; mine = i.own Guest; peers = i.own Host; wakes = i.wakes Guest; peers_wakes = i.wakes Host }
sided_of n ws ends i Host = record { both = both_of n Host ws (ends Guest) (ends Host) i.channel; mine = i.own Host; peers = i.own Guest; wakes = i.wakes Host; peers_wakes = i.wakes Guest }

-- what holds of both sides
pub each_side : (P : Side → EndState → Type 0) (x : Side) (e : EndState) (ends : Side → EndState) → P x e → P (peer_of x) (ends (peer_of x)) → (y : Side) → P y (with_end x e ends y)
each_side P Guest e ends a b Guest = a
each_side P Guest e ends a b Host = b
each_side P Host e ends a b Guest = b
each_side P Host e ends a b Host = a

-- what holds of an end and its peer, from both sides
each_pair : (P : Side → EndState → EndState → Type 0) (x : Side) (e : EndState) (ends : Side → EndState) → P x e (ends (peer_of x)) → P (peer_of x) (ends (peer_of x)) e → (y : Side) → P y (with_end x e ends y) (with_end x e ends (peer_of y))
each_pair P Guest e ends a b Guest = a
each_pair P Guest e ends a b Host = b
each_pair P Host e ends a b Guest = b
each_pair P Host e ends a b Host = a

pub invariant_of : (n : ℕ) (x : Side) (ws : List ℕ) (e : EndState) (ends : Side → EndState) → Sided n x ws e (ends (peer_of x)) → ChannelInvariant n ws (with_end x e ends)
invariant_of n Guest ws e ends s = record { channel = channel_of n Guest ws e (ends Host) s.both; own = each_side (OwnPart n ws) Guest e ends s.mine s.peers; wakes = each_pair (λ (y : Side) (a c : EndState). WakePending n ws y a.machine c.machine) Guest e ends s.wakes s.peers_wakes }
invariant_of n Host ws e ends s = record { channel = channel_of n Host ws e (ends Guest) s.both; own = each_side (OwnPart n ws) Host e ends s.mine s.peers; wakes = each_pair (λ (y : Side) (a c : EndState). WakePending n ws y a.machine c.machine) Host e ends s.wakes s.peers_wakes }

stepped_own : (ws : List ℕ) (e p : EndState) → Sided e.machine.cells e.machine.side ws e p → (op : Op) → next_of e.machine e.packet ≡ Some op
    → Sided e.machine.cells e.machine.side (written e.machine.cells op ws) (after e (answer_in e.machine.cells op ws)) p
stepped_own ws e p s op h =
    let v : ℕ = answer_in e.machine.cells op ws in
    let ws' : List ℕ = written e.machine.cells op ws in
    let sound = s.both.fits.sound in
    let g : Goes e.machine.cells e.machine.side e.packet ws' (after e v) p = step_both e.machine.cells e.machine.side e.packet ws e p s.both (λ _. refl) op h in
    let w : WaitsBy e.machine.stage e.machine.cells e.machine.side e.machine.want ws ws' = step_waits e.machine e.packet ws sound s.both.words op h in
    let k : KnownBy e.machine.stage (get_or ws (signal_of e.machine.cells e.machine.side) 0) p.machine v = known ws e p s.both s.peers.words op h in
    let own = own_waking e.machine p.machine v (get_or ws (signal_of e.machine.cells e.machine.side) 0) sound s.mine.point s.both.peer_fits.sound s.both.peer_fits.cells (to_waking e.machine.cells e.machine.side ws e p s.both s.wakes) k in
    let peers = peers_waking e.machine p.machine v (get_or ws (signal_of e.machine.cells e.machine.side) 0) (get_or ws (signal_of e.machine.cells (peer_of e.machine.side)) 0) sound s.both.peer_fits.sound s.peers.point s.mine.committed s.both.peer_fits.cells
    (to_waking e.machine.cells (peer_of e.machine.side) ws p e (turned e.machine.cells e.machine.side ws e p s.both) s.peers_wakes) k in
    record {
      both = g.both;
      mine = record { goes = g.goes; point = fed_point e.machine s.mine.point sound v; committed = fed_given e.machine v s.mine.committed; words = own_words e.machine.cells e.machine.side ws ws' e.machine v w s.mine.words };
      peers = record { goes = s.peers.goes; point = s.peers.point; committed = s.peers.committed; words = peers_words e.machine.cells e.machine.side ws ws' e.machine.stage e.machine.want p.machine w s.peers.words };
      wakes = of_waking e.machine.cells e.machine.side ws' (after e v) p g.both (subst (λ (c : ℕ). Waking c (fed e.machine v) p.machine) (sym w.signal) own);
      peers_wakes = of_waking e.machine.cells (peer_of e.machine.side) ws' p (after e v) (turned e.machine.cells e.machine.side ws' (after e v) p g.both) (subst (λ (c : ℕ). Waking c p.machine (fed e.machine v)) (sym w.raised) peers);
    }

-- a step of the end on the channel's words
pub stepped : (n : ℕ) (x : Side) (ws : List ℕ) (e p : EndState) → Sided n x ws e p → (op : Op) → next_of e.machine e.packet ≡ Some op → Sided n x (written n op ws) (after e (answer_in n op ws)) p
stepped n x ws e p s =
    subst (λ (k : ℕ × Side). Sided k.0 k.1 ws e p → (op : Op) → next_of e.machine e.packet ≡ Some op → Sided k.0 k.1 (written k.0 op ws) (after e (answer_in k.0 op ws)) p)
    (λ j. (s.both.fits.cells j, s.both.fits.side j)) (stepped_own ws e p) s

-- a call that begins
pub begun : (n : ℕ) (x : Side) (ws : List ℕ) (e p : EndState) → Sided n x ws e p → (m : EndMachine) (q : List ℕ) → Begins e m q → Sided n x ws (entered e m q) p
begun n x ws e p s m q b =
    let g : Goes n x q ws (entered e m q) p = call_began n x ws e p s.both m q b (begins_sound e m q s.both.fits.sound b) in
    let o = begins_opens e m q s.mine.point b in
    record {
      both = g.both;
      mine = record { goes = g.goes; point = o.point; committed = λ h. absurd (no_true o.ungiven h); words = begins_words n x ws e m q s.mine.words o };
      peers = s.peers;
      wakes = of_waking n x ws (entered e m q) p g.both (opens_own e m q o _ p.machine (to_waking n x ws e p s.both s.wakes));
      peers_wakes = of_waking n (peer_of x) ws p (entered e m q) (turned n x ws (entered e m q) p g.both) (opens_peers e m q o _ p.machine (to_waking n (peer_of x) ws p e (turned n x ws e p s.both) s.peers_wakes));
    }

-- a call that begins, or goes on
pub continued : (n : ℕ) (x : Side) (ws : List ℕ) (e p : EndState) → Sided n x ws e p → (m : EndMachine) (q : List ℕ) → Continues e m q → Sided n x ws (entered e m q) p
continued n x ws e p s m q go =
    ⊎_elim (λ (c : (m ≡ e.machine) × (q ≡ e.packet)). subst (λ (k : EndMachine × List ℕ). Sided n x ws (entered e k.0 k.1) p) (λ j. (sym c.0 j, sym c.1 j)) s)
    (begun n x ws e p s m q) go
