-- What the rule says of an end that is awake, that sleeps, that saw a mark, or that is drained.
use Rattle.std.proofs.Common.{◌≡◌, ℕ, Bool, true, false, ◌||◌, not, cond, List, get_or, Some, refl, sym, ap, ◌∙◌}
use Rattle.channel_trace.specs.Runs.{has_marked, has_seen}
use Rattle.channel_trace.proofs.RunLaws.{sees_marks}
use Rattle.io_edge.specs.declared.side.Side.{Side}
use Rattle.io_edge.specs.declared.side.Side.TheVariants.{Guest, Host}
use Rattle.ring_machine.specs.declared.machine.Stage.{Stage}
use Rattle.ring_machine.specs.declared.machine.Stage.TheVariants.{ArmPending, ArmWrite, ArmRead, ArmMark, ArmUndoMask, PollMask}
use Rattle.ring_machine.specs.declared.machine.EndMachine.{EndMachine}
use Rattle.ring_machine.specs.declared.state.EndState.{EndState}
use Rattle.ring_machine.specs.declared.place.Op.{Op}
use Rattle.ring_machine.specs.Places.{out_of, in_of, peer_of, mark_of}
use Rattle.ring_machine.specs.Steps.{IsSound, next_of, is_arming_at, is_waking_at, sleeps_at}
use Rattle.ring_machine.specs.States.{after, entered, Begins}
use Rattle.ring_core.specs.Told.{written, answer_in}
use Rattle.ring_pair_laws.specs.Ring.{ring_in}
use Rattle.ring_pair_laws.proofs.Settling.{guest_drained, host_drained}
use Rattle.ring_seat.specs.Points.{is_unmasked_at, pending_at}
use Rattle.ring_seat.specs.Rule.{ChannelInvariant, with_end}
use Rattle.ring_seat.specs.Waking.{WakeCause, packets_looked_at, room_looked_at}
use Rattle.ring_seat.proofs.Sided.{sided_of, invariant_of, stepped, begun}

pub keeps_step : (n : ℕ) (ws : List ℕ) (ends : Side → EndState) (x : Side) (op : Op) → ChannelInvariant n ws ends → next_of (ends x).machine (ends x).packet ≡ Some op
    → ChannelInvariant n (written n op ws) (with_end x (after (ends x) (answer_in n op ws)) ends)
keeps_step n ws ends x op i h = invariant_of n x _ _ ends (stepped n x ws (ends x) (ends (peer_of x)) (sided_of n ws ends i x) op h)

pub keeps_begin : (n : ℕ) (ws : List ℕ) (ends : Side → EndState) (x : Side) (m : EndMachine) (p : List ℕ) → ChannelInvariant n ws ends → Begins (ends x) m p → ChannelInvariant n ws (with_end x (entered (ends x) m p) ends)
keeps_begin n ws ends x m p i b = invariant_of n x _ _ ends (begun n x ws (ends x) (ends (peer_of x)) (sided_of n ws ends i x) m p b)

plain_unmasked : (st : Stage) → is_arming_at st ≡ false → is_waking_at st ≡ false → is_unmasked_at st ≡ false
plain_unmasked ArmWrite a w = absurd (cc)
plain_unmasked ArmRead a w = absurd (cc)
plain_unmasked ArmMark a w = absurd (cc)
plain_unmasked ArmUndoMask a w = absurd (cc)
plain_unmasked PollMask a w = absurd (cc)
plain_unmasked _ a w = refl

no_pending : (st : Stage) → pending_at st 0 ≡ 0
no_pending ArmPending = refl
no_pending _ = refl

asleep_pending : (st : Stage) (want : ℕ) → sleeps_at st ≡ true → pending_at st want ≡ want
asleep_pending ArmPending want h = absurd (cc)
asleep_pending _ want h = refl

or_yes : (b c : Bool) → c ≡ true → (b || c) ≡ true
or_yes true c i = refl
or_yes false c i = i

module _ (n : ℕ) (ws : List ℕ) (ends : Side → EndState) (x : Side) (i : ChannelInvariant n ws ends) where
  pub awake_words : (ends x).machine.asleep ≡ false → is_arming_at (ends x).machine.stage ≡ false → is_waking_at (ends x).machine.stage ≡ false → (ring_in n ws (in_of x) 2 ≡ 1) × (ring_in n ws (out_of x) 3 ≡ 0)
  awake_words awake a w =
      let m : EndMachine = (ends x).machine in
      let own = i.own x in
      let masked : m.masked ≡ true = own.point.masked ∙ (λ j. not (plain_unmasked m.stage a w j || awake j)) in
      let want : m.want ≡ 0 = own.point.want (λ j. a j || (w j || awake j)) in
      (own.words.mask ∙ ap (λ (b : Bool). cond b 1 0) masked, own.words.pending ∙ (ap (pending_at m.stage) want ∙ no_pending m.stage))

  sound : IsSound (ends x).machine
  sound = (sided_of n ws ends i x).both.fits.sound

  pub asleep_words : (ends x).machine.asleep ≡ true → ((ends x).machine.start ≡ (ends x).machine.read) × (ring_in n ws (in_of x) 2 ≡ 0) × (ring_in n ws (out_of x) 3 ≡ (ends x).machine.want)
  asleep_words a =
      let s = sound.asleep a in
      let own = i.own x in
      (s.1, own.words.mask ∙ ap (λ (b : Bool). cond b 1 0) s.0, own.words.pending ∙ asleep_pending (ends x).machine.stage (ends x).machine.want s.2)

  pub asleep_looks : (ends x).machine.asleep ≡ true → WakeCause n ws x (ends x).machine (ends (peer_of x)).machine
  asleep_looks a =
      let w = i.wakes x in
      record {
        packets = w.packets (or_yes (packets_looked_at (ends x).machine.stage) (ends x).machine.asleep a);
        room = w.room (or_yes (room_looked_at (ends x).machine.stage) (ends x).machine.asleep a);
        mark = w.mark a;
      }

pub seen_up : (n : ℕ) (ws : List ℕ) (ends : Side → EndState) (x : Side) → ChannelInvariant n ws ends → (ends x).machine.peer_marked ≡ true → get_or ws (mark_of n (peer_of x)) 0 ≡ 1
seen_up n ws ends Guest i h =
    let c = i.channel in
    let up : has_marked (ends Host).past ≡ true = sym (ap has_marked c.host_turns) ∙ (sees_marks c.turns c.run).guest (ap has_seen c.guest_turns ∙ (c.guest_past.seen ∙ h)) in
    c.host_past.word ∙ ap (λ (b : Bool). cond b 1 0) (sym c.host_past.marked ∙ up)
seen_up n ws ends Host i h =
    let c = i.channel in
    let up : has_marked (ends Guest).past ≡ true = sym (ap has_marked c.guest_turns) ∙ (sees_marks c.turns c.run).host (ap has_seen c.host_turns ∙ (c.host_past.seen ∙ h)) in
    c.guest_past.word ∙ ap (λ (b : Bool). cond b 1 0) (sym c.guest_past.marked ∙ up)

pub drained_all : (n : ℕ) (ws : List ℕ) (ends : Side → EndState) (x : Side) → ChannelInvariant n ws ends → (ends x).machine.drained ≡ true → (ends x).got ≡ (ends (peer_of x)).sent
drained_all n ws ends Guest i d = guest_drained n ws (ends Guest) (ends Host) i.channel d
drained_all n ws ends Host i d = host_drained n ws (ends Guest) (ends Host) i.channel d
