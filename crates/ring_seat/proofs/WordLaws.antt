-- The words in which an end says what it waits for are what it last stored, after each step of either end.
use Rattle.std.proofs.Common.{rules, ◌≡◌, ℕ, ◌<◌, Bool, cond, List, refl, sym, ap, ◌∙◌, subst, arith}
use Rattle.io_edge.specs.declared.side.Side.{Side}
use Rattle.io_edge.specs.declared.side.Side.TheVariants.{Guest, Host}
use Rattle.ring_machine.specs.declared.machine.Stage.{Stage}
use Rattle.ring_machine.specs.declared.machine.Stage.TheVariants.{Idle}
use Rattle.ring_machine.specs.declared.machine.EndMachine.{EndMachine}
use Rattle.ring_machine.specs.declared.state.EndState.{EndState}
use Rattle.ring_machine.specs.Places.{out_of, in_of, peer_of}
use Rattle.ring_machine.specs.Steps.{fed, fed_at}
use Rattle.ring_pair_laws.specs.Ring.{ring_in}
use Rattle.ring_seat.specs.Points.{pending_at, pending_of}
use Rattle.ring_seat.specs.Rule.{OwnWords}
use Rattle.ring_seat.proofs.PointLaws.{Opens}
use Rattle.ring_seat.proofs.Waits.{WaitsBy, mask_after, pending_after, signal_after, raised_after}

-- these are the machine's mask and wanted room
record Stored (a b : ℕ) (m : EndMachine) : Type 0 where
  pub mask : a ≡ cond m.masked 1 0
  pub pending : b ≡ pending_of m

module _ (m : EndMachine) (v a b : ℕ) (s : Stored a b m) where
  pending_here : (st : Stage) → m.stage ≡ st → b ≡ pending_at st m.want
  pending_here st e = s.pending ∙ ap (λ (k : Stage). pending_at k m.want) e

  keeps : (k : EndMachine) → k.masked ≡ m.masked → b ≡ pending_of k → Stored a b k
  keeps k masked pending = record { mask = s.mask ∙ ap (λ (c : Bool). cond c 1 0) (sym masked); pending = pending }

  fed_stored : (st : Stage) → m.stage ≡ st → Stored (mask_after st a) (pending_after st m.want b) (fed_at st m v)
  fed_stored Idle e = s
  fed_stored _ e = let p = pending_here _ e in search rules

low_signal : (st : Stage) (w : ℕ) → w < 2 → signal_after st w < 2
low_signal Idle w h = h
low_signal _ w h = omega arith

low_raised : (st : Stage) (w : ℕ) → w < 2 → raised_after st w < 2
low_raised Idle w h = h
low_raised _ w h = omega arith

-- a step of the end itself
pub own_words : (n : ℕ) (x : Side) (ws ws' : List ℕ) (m : EndMachine) (v : ℕ) → WaitsBy m.stage n x m.want ws ws' → OwnWords n ws x m → OwnWords n ws' x (fed m v)
own_words n x ws ws' m v w o =
    let s : Stored (mask_after m.stage (ring_in n ws (in_of x) 2)) (pending_after m.stage m.want (ring_in n ws (out_of x) 3)) (fed m v) = fed_stored m v _ _ (record { mask = o.mask; pending = o.pending }) m.stage refl in
    record {
      mask = w.mask ∙ s.mask;
      pending = w.pending ∙ s.pending;
      feature = w.feature ∙ o.feature;
      signal = subst (λ (k : ℕ). k < 2) (sym w.signal) (low_signal m.stage _ o.signal);
    }

-- a step of the peer
pub peers_words : (n : ℕ) (x : Side) (ws ws' : List ℕ) (st : Stage) (want : ℕ) (k : EndMachine) → WaitsBy st n x want ws ws' → OwnWords n ws (peer_of x) k → OwnWords n ws' (peer_of x) k
peers_words n Guest ws ws' st want k w o = record {
  mask = w.peers_mask ∙ o.mask;
  pending = w.peers_pending ∙ o.pending;
  feature = w.peers_feature ∙ o.feature;
  signal = subst (λ (i : ℕ). i < 2) (sym w.raised) (low_raised st _ o.signal);
}
peers_words n Host ws ws' st want k w o = record {
  mask = w.peers_mask ∙ o.mask;
  pending = w.peers_pending ∙ o.pending;
  feature = w.peers_feature ∙ o.feature;
  signal = subst (λ (i : ℕ). i < 2) (sym w.raised) (low_raised st _ o.signal);
}

-- where a call begins
pub begins_words : (n : ℕ) (x : Side) (ws : List ℕ) (e : EndState) (m : EndMachine) (q : List ℕ) → OwnWords n ws x e.machine → Opens e m q → OwnWords n ws x m
begins_words n x ws e m q o s = record { mask = o.mask ∙ ap (λ (c : Bool). cond c 1 0) (sym s.masked); pending = o.pending ∙ sym s.pending; feature = o.feature; signal = o.signal }
