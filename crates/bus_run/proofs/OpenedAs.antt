-- The channels of a phase were opened as the lines say, and what was carried is what their workers left.
use Rattle.vmbus_msg.specs.declared.msg.Msg.{Msg}
use Rattle.std.proofs.Common.{◌≡◌, ℕ, ◌≤◌, List, [], ◌∷◌, ◌++◌, length, append_assoc, drop, ap, refl, sym, true, ◌∙◌, subst, arith, slice_index_or}
use Rattle.std.specs.Prelude.{map}
use Rattle.std.specs.List.{AllByRecursion, flat_map}
use Rattle.std.proofs.lemmas.List.{append-nil, map-append, length-drop}
use Rattle.std.proofs.lemmas.Grind.{flat_map-append}
use Rattle.script_lines.specs.declared.line.Line.{Line}
use Rattle.script_lines.specs.declared.line.DeviceSpec.{DeviceSpec}
use Rattle.script_lines.specs.declared.line.DeviceSpec.TheVariants.{Net}
use Rattle.script_lines.specs.Parts.{kind_of}
use Rattle.script_phases.specs.Openings.{Opening, Phase, by_relid}
use Rattle.control_model.specs.Plan.{phase_of}
use Rattle.control_model.specs.declared.opening.Opening.{Opening as PlanOpening}
use Rattle.control_model.specs.Openings.{has_buffers, plan_of}
use Rattle.control_path.specs.Told.{IsSaidToStart}
use Rattle.bus_model.specs.Orders.{order_of}
use Rattle.bus_model.specs.declared.channel_run.ChannelRun.{ChannelRun}
use Rattle.bus_plan.specs.Plans.{EachOf, EachOrdered}
use Rattle.bus_plan.specs.declared.opening.ChannelOrder.{ChannelOrder}
use Rattle.ring_pair_laws.specs.Lists.{Lists}
use Rattle.bus_threads.specs.Pairs.{EachRuns, Pairing}
use Rattle.bus_threads.specs.declared.pair.PairDone.{PairDone}
use Rattle.bus_run.specs.Channels.{CanRun, IsOf}
use Rattle.bus_run.specs.Closing.{RanAt}
use Rattle.bus_run.specs.Opened.{AllRanAsSet, AreOpenAt, HaveLeft, HaveWorked, IsOpenAt, IsOpenedAs, IsPlanned, RanAsSet, Worked}
use Rattle.bus_run.specs.Opening.{AllOpened, Given, IsOpenedWith, OpensAt, lists_in, lists_on, planned_lists, planned_on}
use Rattle.device_any.specs.Boxes.{EachWith}
use Rattle.device_any.specs.declared.device_box.DeviceBox.{DeviceBox}
use Rattle.bus_run.specs.Settings.{SettingsOf, unset}
use Rattle.bus_run.specs.declared.settings.Settings.{Settings}
use Rattle.bus_run.proofs.Assembling.{same_order}
use Rattle.bus_run.proofs.Items.{with_long, with_push}
use Rattle.bus_run.proofs.Told.{TellsPlanned}

-- each channel has what is ordered of it in the plan, and what is set for its device
opened_at : (posted : List Msg) (settings : List Settings) (p : Phase) (old : List DeviceBox) (os : List Opening) (given : List Given) (pairs : List Pairing) → length settings ≡ length old → EachOrdered p os (map (λ (g : Given). g.order) given) → AllByRecursion (IsOf old) os
    → EachWith (OpensAt posted settings old) given pairs → EachOf (IsOpenAt posted settings p) os pairs
opened_at posted settings p old [] [] [] count ordered of opens = tt
opened_at posted settings p old [] [] (q ∷ pairs) count ordered of opens = absurd opens
opened_at posted settings p old [] (g ∷ given) pairs count ordered of opens = absurd ordered
opened_at posted settings p old (o ∷ os) [] pairs count ordered of opens = absurd ordered
opened_at posted settings p old (o ∷ os) (g ∷ given) [] count ordered of opens = absurd opens
opened_at posted settings p old (o ∷ os) (g ∷ given) (q ∷ pairs) count ordered of opens = (
  record {
    within = omega (arith, of.0.within, count);
    seat = g.seat;
    opened = subst (λ k. IsOpenedWith posted (slice_index_or settings k unset) o.relid (order_of p o) g.seat q) ordered.0.device
        (subst (λ r. IsOpenedWith posted (slice_index_or settings g.order.opening.device unset) r (order_of p o) g.seat q) ordered.0.relid
        (subst (λ r. IsOpenedWith posted (slice_index_or settings g.order.opening.device unset) g.order.opening.relid r g.seat q) (same_order p 0 old o g.order ordered.0 of.0) opens.0));
  },
  opened_at posted settings p old os given pairs count ordered.1 of.1 opens.1,
)

-- the channels of a phase have worked
pub have_worked : (phase : ℕ) (posted : List Msg) (settings : List Settings) (p : Phase) (old : List DeviceBox) (plan : List ChannelOrder) (before seats : List DeviceBox) (pairs : List Pairing) (dones : List PairDone) (settled settled' : List ChannelRun) (work work' : List Worked) (w : Worked) → length settings ≡ length old → CanRun phase plan old p
    → AllOpened posted settings plan old before seats pairs → EachRuns pairs dones → HaveLeft settled settled' dones → work' ≡ work ++ w ∷ [] → w.opened ≡ pairs → w.left ≡ dones → HaveWorked posted settings p settled settled' work work'
have_worked phase posted settings p old plan before seats pairs dones settled settled' work work' w count can all runs left is opened_is left_is = record {
  work = w;
  after_is = is;
  opened = subst (AreOpenAt posted settings p) (sym opened_is)
      (opened_at posted settings p old (by_relid p.opened) all.opened.given pairs count (subst (EachOrdered p (by_relid p.opened)) (sym all.opened.planned) can.ordered) can.of all.opened.opens);
  ran = subst (λ l. EachRuns l w.left) (sym opened_is) (subst (EachRuns pairs) (sym left_is) runs);
  left = subst (HaveLeft settled settled') (sym left_is) left;
}

-- where a network's lists are the plan's, those of any channel are
as_planned : (spec : DeviceSpec) (posted : List Msg) (relid : ℕ) (o : PlanOpening) → (has_buffers spec ≡ true → lists_in posted relid ≡ planned_lists o) → lists_on (kind_of spec) posted relid ≡ planned_on (kind_of spec) o
as_planned (Net mac station) posted relid o planned = planned refl
as_planned _ posted relid o planned = refl

-- and that is what the lines set, and what the control path's plan has
opened_as : (lines : List Line) (devices : ℕ) (posted : List Msg) (settings : List Settings) (p : Phase) (os : List Opening) (pairs : List Pairing) → SettingsOf lines devices settings → TellsPlanned (plan_of lines) p.number posted
    → AllByRecursion (IsPlanned (phase_of (plan_of lines) p.number)) os → EachOf (IsOpenAt posted settings p) os pairs → EachOf (IsOpenedAs posted lines p) os pairs
opened_as lines devices posted settings p [] [] are told planned each = tt
opened_as lines devices posted settings p [] (q ∷ pairs) are told planned each = absurd each
opened_as lines devices posted settings p (o ∷ os) [] are told planned each = absurd each
opened_as lines devices posted settings p (o ∷ os) (q ∷ pairs) are told planned each = (
  record {
    seat = each.0.seat;
    opened = subst (λ s. IsOpenedWith posted s o.relid (order_of p o) each.0.seat q) (are.each o.device (omega (arith, each.0.within, are.count))) each.0.opened;
    planned = planned.0;
    lists = each.0.opened.lists ∙ as_planned o.spec posted o.relid planned.0.opening (λ has. ap (lists_in posted) (sym planned.0.relid) ∙ told planned.0.place planned.0.opening planned.0.is (planned.0.buffers ∙ has));
  },
  opened_as lines devices posted settings p os pairs are told planned.1 each.1,
)

-- one more phase
pub ran_more : (lines : List Line) (devices : ℕ) (posted : List Msg) (settings : List Settings) (ps : List Phase) (p : Phase) (work work' : List Worked) (settled settled' : List ChannelRun) → SettingsOf lines devices settings → IsSaidToStart (plan_of lines) p.number posted → TellsPlanned (plan_of lines) p.number posted
    → AllByRecursion (IsPlanned (phase_of (plan_of lines) p.number)) (by_relid p.opened) → AllRanAsSet lines ps work settled → HaveWorked posted settings p settled settled' work work'
    → AllRanAsSet lines (ps ++ p ∷ []) work' settled'
ran_more lines devices posted settings ps p work work' settled settled' are said told planned before one =
    let runs = one.left.runs in
    let w = one.work in
    let carried : ChannelRun → Lists = λ r. r.settled in
    let left : PairDone → Lists = λ d. d.settled in
    let all : List Worked → List PairDone = flat_map (λ (w : Worked). w.left) in
    record {
      each = subst (EachWith (RanAsSet lines) (ps ++ p ∷ [])) (sym one.after_is)
          (with_push (RanAsSet lines) ps work p w before.each (record { posted = posted; posted_is = said; opened = opened_as lines devices posted settings p (by_relid p.opened) w.opened are told planned one.opened; ran = one.ran }));
      carried = ap (map carried) one.left.settled_are
          ∙ (map-append carried settled runs
          ∙ (ap (λ l. l ++ map carried runs) before.carried
          ∙ (ap (λ l. map left (all work) ++ l) one.left.carried
          ∙ (sym (map-append left (all work) w.left)
          ∙ (ap (λ l. map left (all work ++ l)) (sym (append-nil w.left)) ∙ (ap (map left) (sym (flat_map-append (λ (w : Worked). w.left) work (w ∷ []))) ∙ ap (λ l. map left (all l)) (sym one.after_is)))))));
    }

-- what the channels left, closed one by one
pub record LeftSoFar (settled settled' : List ChannelRun) (all dones : List PairDone) : Type 0 where
  pub runs : List ChannelRun
  pub settled_are : settled' ≡ settled ++ runs
  pub carried : map (λ (r : ChannelRun). r.settled) runs ++ map (λ (d : PairDone). d.settled) dones ≡ map (λ (d : PairDone). d.settled) all

pub left_start : (settled : List ChannelRun) (all dones : List PairDone) → dones ≡ all → LeftSoFar settled settled all dones
left_start settled all dones is = record { runs = []; settled_are = sym (append-nil settled); carried = ap (map (λ (d : PairDone). d.settled)) is }

pub left_more : (settled mid settled' : List ChannelRun) (all dones rest rest' : List PairDone) (done : PairDone) (run : ChannelRun) → LeftSoFar settled mid all dones → dones ≡ done ∷ rest → rest' ≡ rest → settled' ≡ mid ++ run ∷ [] → run.settled ≡ done.settled
    → LeftSoFar settled settled' all rest'
left_more settled mid settled' all dones rest rest' done run so_far are rest_is settled_is same =
    let carried : ChannelRun → Lists = λ r. r.settled in
    let left : PairDone → Lists = λ d. d.settled in
    record {
      runs = so_far.runs ++ run ∷ [];
      settled_are = settled_is ∙ (ap (λ l. l ++ run ∷ []) so_far.settled_are ∙ append_assoc settled so_far.runs (run ∷ []));
      carried = ap (λ l. l ++ map left rest') (map-append carried so_far.runs (run ∷ []))
          ∙ (append_assoc (map carried so_far.runs) (carried run ∷ []) (map left rest')
          ∙ (ap (λ x. map carried so_far.runs ++ x ∷ map left rest') same
          ∙ (ap (λ l. map carried so_far.runs ++ left done ∷ map left l) rest_is ∙ (ap (λ l. map carried so_far.runs ++ map left l) (sym are) ∙ so_far.carried))));
    }

pub left_end : (settled settled' : List ChannelRun) (all dones : List PairDone) (old : List DeviceBox) (given : List Given) (i : ℕ) → LeftSoFar settled settled' all dones → length given ≤ i → EachWith (RanAt old) (drop i given) dones → HaveLeft settled settled' all
left_end settled settled' all [] old given i so_far over each = record { runs = so_far.runs; settled_are = so_far.settled_are; carried = sym (append-nil (map (λ (r : ChannelRun). r.settled) so_far.runs)) ∙ so_far.carried }
left_end settled settled' all (d ∷ dones) old given i so_far over each = absurd (omega (arith, over, length-drop i given, with_long (RanAt old) (drop i given) (d ∷ dones) each))
