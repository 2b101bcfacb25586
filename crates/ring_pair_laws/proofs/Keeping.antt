-- A channel and its two ends belong together after each step of one of them, and after each call.
use Rattle.std.proofs.Common.{◌≡◌, ◌≢◌, ℕ, Bool, true, false, ◌||◌, cond, eqb, List, [], ◌∷◌, ◌++◌, length, get_or, Some, refl, sym, ap, ◌∙◌, subst, ⊎_elim, length-set}
use Rattle.channel_trace.specs.declared.event.Event.{Event}
use Rattle.channel_trace.specs.Runs.{Turn, Guest as GuestTurn, Host as HostTurn, IsRun, May, guest_of, host_of}
use Rattle.io_edge.specs.declared.side.Side.{Side}
use Rattle.io_edge.specs.declared.side.Side.TheVariants.{Guest, Host}
use Rattle.ring_machine.specs.declared.machine.Stage.{Stage}
use Rattle.ring_machine.specs.declared.machine.Stage.TheVariants.{Idle, Stopped, TakeFirst, TakeCell, ArmPending, ArmMask}
use Rattle.ring_machine.specs.declared.machine.Ending.{Ending}
use Rattle.ring_machine.specs.declared.machine.EndMachine.{EndMachine}
use Rattle.ring_machine.specs.declared.state.EndState.{EndState}
use Rattle.ring_machine.specs.declared.place.Op.{Op}
use Rattle.ring_machine.specs.declared.place.Op.TheVariants.{Load, Store, Raise, TakeSignal, StoreMark}
use Rattle.ring_machine.specs.Places.{out_of, in_of, peer_of, mark_of, words_of}
use Rattle.ring_machine.specs.Steps.{IsSound, fed, is_copying_at, next_at, next_of, is_busy_at, send_begun, take_begun, commit_begun, arm_begun, poll_begun, mark_begun, peer_mark_begun}
use Rattle.ring_machine.specs.States.{after, entered, kept_at, copied_at, copied_after, Begins}
use Rattle.ring_core.specs.Told.{written, answer_in}
use Rattle.ring_pair_laws.specs.Ring.{size, RingOk, PastOk, Fits, ChannelOk, Sending_at, Taking_at, ring_in, is_marking_at}
use Rattle.ring_pair_laws.proofs.Frame.{Tells, Rests, producer_same, consumer_same, past_kept, no_rest, not_stopped, goes_on, indices_of, calm_sending, calm_taking, is_calm_at}
use Rattle.ring_machine.proofs.Sound.{fed_sound}
use Rattle.ring_machine.proofs.Tables.{fed_cells}
use Rattle.ring_pair_laws.proofs.Sides.{fed_side}
use Rattle.ring_pair_laws.proofs.Words.{Kept, step_kept}

abbrev pub turns_of : Side → List (Turn (List ℕ)) → List (Event (List ℕ))
turns_of Guest turns = guest_of turns
turns_of Host turns = host_of turns

-- the end of this side, of two that are given with the guest first
abbrev pub end_at : Side → EndState → EndState → EndState
end_at Guest g h = g
end_at Host g h = h

-- a channel from the side of one of its ends
pub record Both (n : ℕ) (x : Side) (ws : List ℕ) (e p : EndState) : Type 0 where
  pub words : length ws ≡ words_of n
  pub fits : Fits n x e
  pub peer_fits : Fits n (peer_of x) p
  pub out : RingOk n (ring_in n ws (out_of x)) e p
  pub inn : RingOk n (ring_in n ws (in_of x)) p e
  pub past : PastOk (get_or ws (mark_of n x) 0) e
  pub peers : PastOk (get_or ws (mark_of n (peer_of x)) 0) p
  pub turns : List (Turn (List ℕ))
  pub run : IsRun turns
  pub mine : turns_of x turns ≡ e.past
  pub others : turns_of (peer_of x) turns ≡ p.past

pub both_of : (n : ℕ) (x : Side) (ws : List ℕ) (g h : EndState) → ChannelOk n ws g h → Both n x ws (end_at x g h) (end_at (peer_of x) g h)
both_of n Guest ws g h c = record { words = c.words; fits = c.guest_fits; peer_fits = c.host_fits; out = c.to_host; inn = c.to_guest; past = c.guest_past; peers = c.host_past; turns = c.turns; run = c.run; mine = c.guest_turns; others = c.host_turns }
both_of n Host ws g h c = record { words = c.words; fits = c.host_fits; peer_fits = c.guest_fits; out = c.to_guest; inn = c.to_host; past = c.host_past; peers = c.guest_past; turns = c.turns; run = c.run; mine = c.host_turns; others = c.guest_turns }

pub channel_of : (n : ℕ) (x : Side) (ws : List ℕ) (e p : EndState) → Both n x ws e p → ChannelOk n ws (end_at x e p) (end_at x p e)
channel_of n Guest ws e p c = record { words = c.words; guest_fits = c.fits; host_fits = c.peer_fits; to_host = c.out; to_guest = c.inn; guest_past = c.past; host_past = c.peers; turns = c.turns; run = c.run; guest_turns = c.mine; host_turns = c.others }
channel_of n Host ws e p c = record { words = c.words; guest_fits = c.peer_fits; host_fits = c.fits; to_host = c.inn; to_guest = c.out; guest_past = c.peers; host_past = c.past; turns = c.turns; run = c.run; guest_turns = c.others; host_turns = c.mine }

-- a run whose events of the one end, and of the other one, are these
pub record Turns (x : Side) (mine others : List (Event (List ℕ))) : Type 0 where
  pub turns : List (Turn (List ℕ))
  pub run : IsRun turns
  pub own : turns_of x turns ≡ mine
  pub other : turns_of (peer_of x) turns ≡ others

turn_more : (x : Side) (mine others : List (Event (List ℕ))) (ev : Event (List ℕ)) → May ev mine others → Turns x mine others → Turns x (ev ∷ mine) others
turn_more Guest mine others ev may t = record { turns = GuestTurn ev ∷ t.turns; run = (subst (λ (k : List (Event (List ℕ)) × List (Event (List ℕ))). May ev k.0 k.1) (λ j. (sym t.own j, sym t.other j)) may, t.run); own = ap (λ (l : List (Event (List ℕ))). ev ∷ l) t.own; other = t.other }
turn_more Host mine others ev may t = record { turns = HostTurn ev ∷ t.turns; run = (subst (λ (k : List (Event (List ℕ)) × List (Event (List ℕ))). May ev k.0 k.1) (λ j. (sym t.own j, sym t.other j)) may, t.run); own = ap (λ (l : List (Event (List ℕ))). ev ∷ l) t.own; other = t.other }

turns_told : (x : Side) (e p : EndState) (past : List (Event (List ℕ))) → Tells e p past → Turns x e.past p.past → Turns x past p.past
turns_told x e p past told t =
    ⊎_elim (λ (same : past ≡ e.past). subst (λ (l : List (Event (List ℕ))). Turns x l p.past) (sym same) t)
    (λ (more : (ev : Event (List ℕ)) × (past ≡ ev ∷ e.past) × May ev e.past p.past). subst (λ (l : List (Event (List ℕ))). Turns x l p.past) (sym more.1) (turn_more x e.past p.past more.0 more.2 t)) told

written_length : (n : ℕ) (op : Op) (ws : List ℕ) → length (written n op ws) ≡ length ws
written_length n (Load pl) ws = refl
written_length n (Store pl v) ws = length-set ws _ v
written_length n (Raise x) ws = length-set ws _ 1
written_length n (TakeSignal x) ws = length-set ws _ 0
written_length n (StoreMark x) ws = length-set ws _ 1

-- what a step of an end leaves, in a call with the packet q
pub record Goes (n : ℕ) (x : Side) (q ws : List ℕ) (e p : EndState) : Type 0 where
  pub both : Both n x ws e p
  pub packet : is_busy_at e.machine.stage ≡ true → e.packet ≡ q
  pub clear : is_copying_at e.machine.stage ≡ false → e.copied ≡ []
  pub rests : Rests q e p
  pub goes : e.machine.stage ≢ Stopped

copied_last : (st : Stage) (xs : List ℕ) → is_copying_at st ≡ false → copied_at st xs ≡ []
copied_last TakeCell xs h = absurd (cc)
copied_last _ xs h = refl

copied_none : (st : Stage) (m : EndMachine) (xs : List ℕ) (v : ℕ) → is_copying_at m.stage ≡ false → copied_after st m xs v ≡ []
copied_none TakeFirst m xs v h = copied_last m.stage (v ∷ []) h
copied_none TakeCell m xs v h = copied_last m.stage (xs ++ v ∷ []) h
copied_none _ m xs v h = refl

calls_at : (st : Stage) (m : EndMachine) (q : List ℕ) (op : Op) → next_at st m q ≡ Some op → is_busy_at st ≡ true
calls_at Idle m q op h = absurd (cc)
calls_at Stopped m q op h = absurd (cc)
calls_at _ m q op h = refl

kept_packet : (st : Stage) (q : List ℕ) → is_busy_at st ≡ true → kept_at st q ≡ q
kept_packet st q h = ap (λ (b : Bool). cond b q []) h

step_own : (q ws : List ℕ) (e p : EndState) → Both e.machine.cells e.machine.side ws e p → (is_busy_at e.machine.stage ≡ true → e.packet ≡ q) → (op : Op) → next_of e.machine e.packet ≡ Some op
    → Goes e.machine.cells e.machine.side q (written e.machine.cells op ws) (after e (answer_in e.machine.cells op ws)) p
step_own q ws e p b holds op h =
    let same : e.packet ≡ q = holds (calls_at e.machine.stage e.machine e.packet op h) in
    let k : Kept e.machine.cells e.machine.side ws (written e.machine.cells op ws) e p (answer_in e.machine.cells op ws) = step_kept ws e p b.words (record { sound = b.fits.sound; out = b.out; inn = b.inn; past = b.past; peers = b.peers }) op h in
    let t : Turns e.machine.side (after e (answer_in e.machine.cells op ws)).past p.past = turns_told e.machine.side e p _ k.moves.told (record { turns = b.turns; run = b.run; own = b.mine; other = b.others }) in
    record {
      both = record {
        words = written_length e.machine.cells op ws ∙ b.words;
        fits = record { side = fed_side e.machine _ e.machine.stage; cells = fed_cells e.machine _ e.machine.stage; sound = fed_sound e.machine _ b.fits.sound };
        peer_fits = b.peer_fits;
        out = k.moves.out;
        inn = k.moves.inn;
        past = k.moves.past;
        peers = subst (λ (w : ℕ). PastOk w p) (sym k.peers) b.peers;
        turns = t.turns;
        run = t.run;
        mine = t.own;
        others = t.other;
      };
      clear = λ still. copied_none e.machine.stage (fed e.machine (answer_in e.machine.cells op ws)) e.copied (answer_in e.machine.cells op ws) still;
      packet = λ busy. kept_packet (fed e.machine (answer_in e.machine.cells op ws)).stage e.packet busy ∙ same;
      rests = subst (λ (l : List ℕ). Rests l (after e (answer_in e.machine.cells op ws)) p) same k.moves.rests;
      goes = k.moves.goes;
    }

-- a step of one end on the channel's words
pub step_both : (n : ℕ) (x : Side) (q ws : List ℕ) (e p : EndState) → Both n x ws e p → (is_busy_at e.machine.stage ≡ true → e.packet ≡ q) → (op : Op) → next_of e.machine e.packet ≡ Some op
    → Goes n x q (written n op ws) (after e (answer_in n op ws)) p
step_both n x q ws e p b =
    subst (λ (k : ℕ × Side). Both k.0 k.1 ws e p → (is_busy_at e.machine.stage ≡ true → e.packet ≡ q) → (op : Op) → next_of e.machine e.packet ≡ Some op → Goes k.0 k.1 q (written k.0 op ws) (after e (answer_in k.0 op ws)) p)
    (λ j. (b.fits.cells j, b.fits.side j)) (step_own q ws e p) b

-- what a step of an end leaves, goes on through its call
pub goes_on_by : (n : ℕ) (x : Side) (q : List ℕ) (p e : EndState) (ws : List ℕ) (op : Op) → Goes n x q ws e p → next_of e.machine e.packet ≡ Some op → Goes n x q (written e.machine.cells op ws) (after e (answer_in e.machine.cells op ws)) p
goes_on_by n x q p e ws op g h = subst (λ (k : ℕ). Goes n x q (written k op ws) (after e (answer_in k op ws)) p) (sym g.both.fits.cells) (step_both n x q ws e p g.both g.packet op h)

-- the side, the cells, the indices and the marks of a machine
abbrev pub kept_in : EndMachine → Side × ℕ × (ℕ × ℕ × ℕ) × (Bool × Bool × Bool)
kept_in m = (m.side, m.cells, indices_of m, (m.marked, m.peer_marked, m.drained))

busy_goes : (st : Stage) (how : Ending) → is_busy_at st ≡ true → goes_on st how ≡ true
busy_goes Idle how h = absurd (cc)
busy_goes Stopped how h = absurd (cc)
busy_goes _ how h = refl

arm_stage : (t : Bool) → (is_marking_at (cond t ArmMask ArmPending) ≡ false) × (is_busy_at (cond t ArmMask ArmPending) ≡ true) × (is_calm_at (cond t ArmMask ArmPending) ≡ true)
arm_stage true = (refl, refl, refl)
arm_stage false = (refl, refl, refl)

module _ (n : ℕ) (x : Side) (ws : List ℕ) (e p : EndState) (b : Both n x ws e p) where
  -- a call that begins at the machine k, which has the end's indices and marks
  began : (m k : EndMachine) (q : List ℕ) → m ≡ k → IsSound m → e.copied ≡ [] → e.machine.stage ≡ Idle → kept_in k ≡ kept_in e.machine → is_marking_at k.stage ≡ false → is_busy_at k.stage ≡ true
      → Sending_at k.stage n (ring_in n ws (out_of x)) (size e.sent) (size b.out.given_back) (entered e k q) → Taking_at k.stage n (entered e k q) b.inn.waiting → Goes n x q ws (entered e m q) p
  began m k q is sound clear idle same unmarking busy sending taking =
      subst (λ (y : EndMachine). IsSound y → Goes n x q ws (entered e y q) p) (sym is) (λ s. record {
        both = record {
          words = b.words;
          fits = record { side = ap (λ (t : Side × ℕ × (ℕ × ℕ × ℕ) × (Bool × Bool × Bool)). t.0) same ∙ b.fits.side; cells = ap (λ (t : Side × ℕ × (ℕ × ℕ × ℕ) × (Bool × Bool × Bool)). t.1) same ∙ b.fits.cells; sound = s };
          peer_fits = b.peer_fits;
          out = producer_same n _ e _ p b.out refl (ap (λ (t : Side × ℕ × (ℕ × ℕ × ℕ) × (Bool × Bool × Bool)). t.2.0) same) sending;
          inn = consumer_same n _ p e _ b.inn refl (ap (λ (t : Side × ℕ × (ℕ × ℕ × ℕ) × (Bool × Bool × Bool)). t.2.1) same) (ap (λ (t : Side × ℕ × (ℕ × ℕ × ℕ) × (Bool × Bool × Bool)). t.2.2) same) taking;
          past = past_kept _ e b.past k q e.copied e.pages ((λ j. ((same j).3.0 || unmarking j, (same j).3.1, (same j).3.2)) ∙ (λ j. (e.machine.marked || is_marking_at (sym idle j), e.machine.peer_marked, e.machine.drained)));
          peers = b.peers;
          turns = b.turns;
          run = b.run;
          mine = b.mine;
          others = b.others;
        };
        packet = λ h. refl;
        clear = λ h. clear;
        rests = no_rest q (entered e k q) p (busy_goes k.stage k.ended busy);
        goes = not_stopped k (busy_goes k.stage k.ended busy);
      }) sound

  -- any call
  pub call_began : (m : EndMachine) (q : List ℕ) → Begins e m q → IsSound m → Goes n x q ws (entered e m q) p
  call_began m q c sound =
      ⊎_elim (λ a. began m (send_begun e.machine (length q)) q a.0 sound c.0.0 a.3.idle refl refl refl (a.1, refl) tt)
      (⊎_elim (λ a. began m (take_begun e.machine) q a.0 sound c.0.0 a.2.idle refl refl refl tt tt)
      (⊎_elim (λ a. began m (commit_begun e.machine) q a.0 sound c.0.0 a.2.idle refl refl refl tt tt)
      (⊎_elim (λ a. let st = arm_stage (eqb a.0 0) in began m (arm_begun e.machine a.0) q a.1 sound c.0.0 a.4.idle refl st.0 st.1 (calm_sending _ n _ _ _ _ st.2) (calm_taking _ n _ _ st.2))
      (⊎_elim (λ a. began m (poll_begun e.machine) q a.0 sound c.0.0 a.2 refl refl refl tt tt)
      (⊎_elim (λ a. began m (mark_begun e.machine) q a.0 sound c.0.0 a.2.idle refl refl refl tt tt)
      (λ a. began m (peer_mark_begun e.machine) q a.0 sound c.0.0 a.2.idle refl refl refl tt tt)))))) c.1
