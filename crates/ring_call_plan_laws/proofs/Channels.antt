-- A channel one of whose ends makes plans keeps its rule.
use Rattle.std.proofs.Common.{◌≡◌, ◌≢◌, ℕ, ◌==◌, List, [], ◌∷◌, ◌++◌, Some, refl, sym, ap, ◌∙◌, subst}
use Rattle.io_edge.specs.declared.side.Side.{Side}
use Rattle.io_edge.specs.declared.side.Side.TheVariants.{Guest, Host}
use Rattle.ring_machine.specs.declared.state.EndState.{EndState}
use Rattle.ring_machine.specs.Places.{peer_of}
use Rattle.ring_machine.specs.States.{after, afters, entered}
use Rattle.ring_machine.specs.Steps.{next_of}
use Rattle.ring_core.specs.Told.{answer_in}
use Rattle.ring_seat.specs.Rule.{ChannelInvariant, with_end}
use Rattle.ring_seat.specs.Waking.{WakeCause}
use Rattle.ring_seat.proofs.Reading.{keeps_step, keeps_begin, asleep_looks}
use Rattle.ring_call_plan.specs.declared.end.PlanEnd.{PlanEnd}
use Rattle.ring_call_plan.specs.Shown.{Shows, AtRest}
use Rattle.ring_call_plan_laws.specs.Accesses.{Access, answers, AreStepsFrom}
use Rattle.ring_call_plan_laws.specs.Whole.{PlanCall, IsCallOf, IsHeard, accesses, begins_as, begun_by, end_of, packet_by}
use Rattle.ring_call_plan_laws.specs.Plays.{Channel, IsLawfulChannel, IsPlayed, Turn, Own, PeerStep, PeerCall, entered_by, own_of, played, turned}
use Rattle.ring_call_plan_laws.proofs.Wholes.{is_call}

-- the end at a side after one is put there, or at the other side
pub here : (x : Side) (t : EndState) (ends : Side → EndState) → with_end x t ends x ≡ t
here Guest t ends = refl
here Host t ends = refl

pub there : (x : Side) (t : EndState) (ends : Side → EndState) → with_end (peer_of x) t ends x ≡ ends x
there Guest t ends = refl
there Host t ends = refl

-- the accesses but the last ones are steps too
front_steps : (s : EndState) (rest acts : List Access) → AreStepsFrom s (rest ++ acts) → AreStepsFrom s acts
front_steps s [] acts h = h
front_steps s (a ∷ rest) acts h = front_steps s rest acts h.1

pub own_side : (n : ℕ) (ws : List ℕ) (ends : Side → EndState) (x : Side) → ChannelInvariant n ws ends → (ends x).machine.side ≡ x
own_side n ws ends Guest i = i.channel.guest_fits.side
own_side n ws ends Host i = i.channel.host_fits.side

module _ (n : ℕ) (x : Side) (s : EndState) where
  -- the rule holds, and the end is in the state after its accesses so far
  pub record Kept (w : Channel) (acts : List Access) : Type 0 where
    pub rule : IsLawfulChannel n w
    pub state : w.ends x ≡ afters s (answers acts)

  own_turn : (w : Channel) (a : Access) (acts : List Access) → Kept w acts → a.gave ≡ answer_in n a.op w.words → AreStepsFrom s (a ∷ acts) → Kept (turned n x (Own a) w) (a ∷ acts)
  own_turn w a acts k gave h =
      let names : next_of (w.ends x).machine (w.ends x).packet ≡ Some a.op = ap (λ (t : EndState). next_of t.machine t.packet) k.state ∙ h.0 in
      record {
        rule = keeps_step n w.words w.ends x a.op k.rule names;
        state = here x (after (w.ends x) (answer_in n a.op w.words)) w.ends ∙ (λ i. after (k.state i) (sym gave i));
      }

  pub all_kept : (w : Channel) → IsLawfulChannel n w → w.ends x ≡ s → (turns : List Turn) → IsPlayed n x w turns → AreStepsFrom s (own_of turns) → Kept (played n x w turns) (own_of turns)
  all_kept w rule is [] p h = record { rule = rule; state = is }
  all_kept w rule is (Own a ∷ turns) p h =
      own_turn (played n x w turns) a (own_of turns) (all_kept w rule is turns p.1 h.1) p.0 h
  all_kept w rule is (PeerStep op ∷ turns) p h =
      let k = all_kept w rule is turns p.1 h in
      let v : Channel = played n x w turns in
      record {
        rule = keeps_step n v.words v.ends (peer_of x) op k.rule p.0;
        state = there x (after (v.ends (peer_of x)) (answer_in n op v.words)) v.ends ∙ k.state;
      }
  all_kept w rule is (PeerCall m q ∷ turns) p h =
      let k = all_kept w rule is turns p.1 h in
      let v : Channel = played n x w turns in
      record {
        rule = keeps_begin n v.words v.ends (peer_of x) m q k.rule p.0;
        state = there x (entered (v.ends (peer_of x)) m q) v.ends ∙ k.state;
      }

module _ (n : ℕ) (x : Side) (w : Channel) (e : PlanEnd) (c : PlanCall) (rule : IsLawfulChannel n w) (shows : Shows e (w.ends x).machine) (rests : AtRest (w.ends x)) (used : begins_as e c ≢ 0) (heard : IsHeard e c) where
  call : IsCallOf (w.ends x) e c
  call = is_call (w.ends x) e shows rests c used heard

  abbrev base : EndState
  base = entered (w.ends x) (begun_by (w.ends x).machine c) (packet_by c)

  abbrev begun : Channel
  begun = entered_by x (begun_by (w.ends x).machine c) (packet_by c) w

  begun_rule : IsLawfulChannel n begun
  begun_rule = keeps_begin n w.words w.ends x (begun_by (w.ends x).machine c) (packet_by c) rule call.begins

  side_is : (w.ends x).machine.side ≡ x
  side_is = own_side n w.words w.ends x rule

  steps : AreStepsFrom base (accesses x e c)
  steps = subst (λ (y : Side). AreStepsFrom base (accesses y e c)) side_is call.steps

  pub keeps_rule : (turns : List Turn) (rest : List Access) → IsPlayed n x begun turns → rest ++ own_of turns ≡ accesses x e c → IsLawfulChannel n (played n x begun turns)
  keeps_rule turns rest p is =
      (all_kept n x base begun begun_rule (here x base w.ends) turns p (front_steps base rest (own_of turns) (subst (AreStepsFrom base) (sym is) steps))).rule

  pub ends_so : (turns : List Turn) → IsPlayed n x begun turns → own_of turns ≡ accesses x e c → Shows (end_of e c) ((played n x begun turns).ends x).machine × AtRest ((played n x begun turns).ends x)
  ends_so turns p is =
      let k = all_kept n x base begun begun_rule (here x base w.ends) turns p (subst (AreStepsFrom base) (sym is) steps) in
      let same : (played n x begun turns).ends x ≡ call.after =
      k.state ∙ ap (λ (acts : List Access). afters base (answers acts)) is ∙ ap (λ (y : Side). afters base (answers (accesses y e c))) (sym side_is) ∙ sym call.after_is in
      (subst (λ (t : EndState). Shows (end_of e c) t.machine) (sym same) call.shows, subst AtRest (sym same) call.rests)

pub sleeps_so : (n : ℕ) (x : Side) (w : Channel) (e : PlanEnd) → IsLawfulChannel n w → Shows e (w.ends x).machine → e.state ≡ 6 → WakeCause n w.words x (w.ends x).machine (w.ends (peer_of x)).machine
sleeps_so n x w e rule shows six = asleep_looks n w.words w.ends x rule (shows.asleep ∙ ap (λ (k : ℕ). k == 6) six)
